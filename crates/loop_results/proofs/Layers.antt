-- The result of each kind of tower, one layer at a time, and the parts and texts of inputs.
use Rattle.std.proofs.Common.{◌≡◌, ℕ, List, [], ◌∷◌, map, length, rules, ℤ, pos}
use Rattle.std.specs.List.{list_any, list_all}
use Rattle.std.specs.Fmt.{signed_decimal}
use Rattle.std.specs.Int.{w64, int_wrap}
use Rattle.std.specs.Ordering.{int_cmp, nat_cmp}
use Rattle.std.specs.Cmp.Lexicographic.{slice_cmp}
use Rattle.loop_data.specs.declared.value.Value.{Value, the_lemmas as value_lemmas}
use Rattle.loop_data.specs.declared.value.Value.TheVariants as value
use Rattle.loop_data.specs.declared.tower.Kind.{Kind, the_lemmas as kind_lemmas}
use Rattle.loop_data.specs.declared.tower.Kind.TheVariants as kind
use Rattle.loop_data.specs.ValueOrder.{value_cmp}
use Rattle.loop_data.specs.ValueParts.{as_int, as_bool, left_of, right_of}
use Rattle.loop_data.specs.ValueTexts.{value_text}
use Rattle.loop_results.specs.Ends.{first_of, last_of}
use Rattle.loop_results.specs.Results as result
use Rattle.loop_results.specs.Results.{result_of, sum_of, least_of, greatest_of, least_at, greatest_at, value_at_place, input_at_key}
use Rattle.loop_results.specs.ResultTexts.{result_text}

module _ (inputs : List Value) where
  pub result_of-Sum : result_of kind.Sum inputs ≡ result.number (sum_of (map as_int inputs))
  result_of-Sum = search (rules, kind_lemmas)

  pub result_of-Prod : result_of kind.Prod inputs ≡ result.number (int_wrap w64 (result.product_of (map as_int inputs)))
  result_of-Prod = search (rules, kind_lemmas)

  pub result_of-Count : result_of kind.Count inputs ≡ result.number (pos (length inputs))
  result_of-Count = search (rules, kind_lemmas)

  pub result_of-Least : result_of kind.Least inputs ≡ result.found (least_of inputs)
  result_of-Least = search (rules, kind_lemmas)

  pub result_of-Greatest : result_of kind.Greatest inputs ≡ result.found (greatest_of inputs)
  result_of-Greatest = search (rules, kind_lemmas)

  pub result_of-LeastAt : result_of kind.LeastAt inputs ≡ result.found_at (least_at (map value_at_place inputs))
  result_of-LeastAt = search (rules, kind_lemmas)

  pub result_of-GreatestAt : result_of kind.GreatestAt inputs ≡ result.found_at (greatest_at (map value_at_place inputs))
  result_of-GreatestAt = search (rules, kind_lemmas)

  pub result_of-First : result_of kind.First inputs ≡ result.found (first_of inputs)
  result_of-First = search (rules, kind_lemmas)

  pub result_of-Last : result_of kind.Last inputs ≡ result.found (last_of inputs)
  result_of-Last = search (rules, kind_lemmas)

  pub result_of-Any : result_of kind.Any inputs ≡ result.truth (list_any as_bool inputs)
  result_of-Any = search (rules, kind_lemmas)

  pub result_of-All : result_of kind.All inputs ≡ result.truth (list_all as_bool inputs)
  result_of-All = search (rules, kind_lemmas)

  pub result_of-Listed : result_of kind.Listed inputs ≡ result.listed inputs
  result_of-Listed = search (rules, kind_lemmas)

  pub result_of-Grouped : (inner : Kind) → result_of (kind.Grouped inner) inputs ≡ result.grouped (result.results_by_key (result_of inner) (map input_at_key inputs))
  result_of-Grouped inner = search (rules, kind_lemmas)

  pub result_of-Both : (l r : Kind) → result_of (kind.Both l r) inputs ≡ result.both (result_of l (map left_of inputs)) (result_of r (map right_of inputs))
  result_of-Both l r = search (rules, kind_lemmas)

  pub result_text-Sum : result_text kind.Sum inputs ≡ signed_decimal (sum_of (map as_int inputs))
  result_text-Sum = search (rules, kind_lemmas)

-- ---- the parts of an input that is a pair, and the texts of values

pub left_of-pair : (x y : Value) → left_of (value.Tuple (x ∷ y ∷ [])) ≡ x
left_of-pair x y = search (rules, value_lemmas)

pub right_of-pair : (x y : Value) → right_of (value.Tuple (x ∷ y ∷ [])) ≡ y
right_of-pair x y = search (rules, value_lemmas)

pub value_text-Int : (n : ℤ) → value_text (value.Int n) ≡ signed_decimal n
value_text-Int n = search (rules, value_lemmas)

pub value_text-Text : (t : List ℕ) → value_text (value.Text t) ≡ t
value_text-Text t = search (rules, value_lemmas)

-- ---- the order of numbers and texts

pub value_cmp-Int : (a b : ℤ) → value_cmp (value.Int a) (value.Int b) ≡ int_cmp a b
value_cmp-Int a b = search (rules, value_lemmas)

pub value_cmp-Text : (a b : List ℕ) → value_cmp (value.Text a) (value.Text b) ≡ slice_cmp nat_cmp a b
value_cmp-Text a b = search (rules, value_lemmas)
