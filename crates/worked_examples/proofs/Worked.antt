-- Results and texts worked by hand, against the definitions.
use Rattle.std.proofs.Common.{◌≡◌, Bool, [], ◌∷◌, ◌++◌, Some, None, refl, codes, ◌∙◌, rules}
use Rattle.std.specs.Prelude.{pos, if◌then◌else◌}
use Rattle.loop_data.specs.declared.value.Value.{Value, the_lemmas as value_lemmas}
use Rattle.loop_data.specs.declared.value.Value.TheVariants as value
use Rattle.loop_data.specs.declared.tower.Kind.TheVariants as kind
use Rattle.loop_results.specs.Results.{number, found, found_at, listed, grouped, both, group, no_more, result_of}
use Rattle.loop_data.specs.ValueTexts.{value_text}
use Rattle.loop_results.proofs.Layers as layer
use Rattle.loop_results.proofs.Layers.{left_of-pair, right_of-pair, value_text-Int, value_text-Text, value_cmp-Int, value_cmp-Text}
use Rattle.worked_examples.specs.Inputs.{int, minus, text, pair}

pub value_text-Bool : (b : Bool) → value_text (value.Bool b) ≡ (if b then codes "true" else codes "false")
value_text-Bool b = search (rules, value_lemmas)

pub value_text-pair : (x y : Value) → value_text (pair x y) ≡ codes "(" ++ (value_text x ++ codes ", " ++ value_text y) ++ codes ")"
value_text-pair x y = search (rules, value_lemmas)

-- ---- no input

pub no_both : result_of (kind.Both kind.Sum kind.Least) [] ≡ both (number (pos 0)) (found None)
no_both = layer.result_of-Both [] kind.Sum kind.Least ∙ simp (layer.result_of-Sum, layer.result_of-Least) refl

-- ---- values

pub least_is_minus_9 : result_of kind.Least (int 3 ∷ minus 9 ∷ int 4 ∷ minus 9 ∷ []) ≡ found (Some (minus 9))
least_is_minus_9 = layer.result_of-Least _ ∙ simp (value_cmp-Int) refl

pub greatest_is_4 : result_of kind.Greatest (int 3 ∷ minus 9 ∷ int 4 ∷ minus 9 ∷ []) ≡ found (Some (int 4))
greatest_is_4 = layer.result_of-Greatest _ ∙ simp (value_cmp-Int) refl

pub least_is_B : result_of kind.Least (text (codes "b") ∷ text (codes "B") ∷ text (codes "ba") ∷ []) ≡ found (Some (text (codes "B")))
least_is_B = layer.result_of-Least _ ∙ simp (value_cmp-Text) refl

pub greatest_is_ba : result_of kind.Greatest (text (codes "b") ∷ text (codes "B") ∷ text (codes "ba") ∷ []) ≡ found (Some (text (codes "ba")))
greatest_is_ba = layer.result_of-Greatest _ ∙ simp (value_cmp-Text) refl

-- ---- values with places

pub least_at_2 : result_of kind.LeastAt (pair (int 3) (int 1) ∷ pair (minus 9) (int 2) ∷ pair (int 4) (int 3) ∷ pair (minus 9) (int 4) ∷ []) ≡ found_at (Some (minus 9, pos 2))
least_at_2 = layer.result_of-LeastAt _ ∙ simp (left_of-pair, right_of-pair, value_cmp-Int) refl

pub greatest_at_2 : result_of kind.GreatestAt (pair (int 3) (int 1) ∷ pair (int 9) (int 2) ∷ pair (int 4) (int 3) ∷ pair (int 9) (int 4) ∷ []) ≡ found_at (Some (int 9, pos 2))
greatest_at_2 = layer.result_of-GreatestAt _ ∙ simp (left_of-pair, right_of-pair, value_cmp-Int) refl

pub b_at_6 : result_of kind.GreatestAt (pair (text (codes "b")) (int 7) ∷ pair (text (codes "a")) (int 5) ∷ pair (text (codes "b")) (int 6) ∷ []) ≡ found_at (Some (text (codes "b"), pos 6))
b_at_6 = layer.result_of-GreatestAt _ ∙ simp (left_of-pair, right_of-pair, value_cmp-Text) refl

-- ---- groups

pub three_sums : result_of (kind.Grouped kind.Sum) (pair (text (codes "north")) (int 10) ∷ pair (text (codes "b")) (int 5) ∷ pair (text (codes "B")) (int 1) ∷ pair (text (codes "north")) (int 7) ∷ []) ≡ grouped (group (codes "B") (number (pos 1)) (group (codes "b") (number (pos 5)) (group (codes "north") (number (pos 17)) no_more)))
three_sums = layer.result_of-Grouped _ kind.Sum ∙ simp (left_of-pair, right_of-pair, layer.result_of-Sum) refl

pub two_lists : result_of (kind.Grouped kind.Listed) (pair (text (codes "b")) (int 2) ∷ pair (text (codes "a")) (int 5) ∷ pair (text (codes "b")) (int 1) ∷ []) ≡ grouped (group (codes "a") (listed (int 5 ∷ [])) (group (codes "b") (listed (int 2 ∷ int 1 ∷ [])) no_more))
two_lists = layer.result_of-Grouped _ kind.Listed ∙ simp (left_of-pair, right_of-pair, layer.result_of-Listed) refl

pub two_boths : result_of (kind.Grouped (kind.Both kind.Sum kind.Count)) (pair (text (codes "r7")) (pair (int 975) value.Nothing) ∷ pair (text (codes "r0")) (pair (int 553) value.Nothing) ∷ []) ≡ grouped (group (codes "r0") (both (number (pos 553)) (number (pos 1))) (group (codes "r7") (both (number (pos 975)) (number (pos 1))) no_more))
two_boths = layer.result_of-Grouped _ (kind.Both kind.Sum kind.Count) ∙ simp (left_of-pair, right_of-pair, layer.result_of-Both, layer.result_of-Sum, layer.result_of-Count) refl

pub nested_groups : result_of (kind.Grouped (kind.Grouped kind.Sum)) (pair (text (codes "b")) (pair (text (codes "y")) (int 2)) ∷ pair (text (codes "a")) (pair (text (codes "x")) (int 5)) ∷ pair (text (codes "b")) (pair (text (codes "x")) (int 1)) ∷ []) ≡ grouped (group (codes "a") (grouped (group (codes "x") (number (pos 5)) no_more)) (group (codes "b") (grouped (group (codes "x") (number (pos 1)) (group (codes "y") (number (pos 2)) no_more))) no_more))
nested_groups = layer.result_of-Grouped _ (kind.Grouped kind.Sum) ∙ simp (left_of-pair, right_of-pair, layer.result_of-Grouped, layer.result_of-Sum) refl
