-- The result of a tower over the whole list of its inputs: the exact sum, the wrapped product, the length, the extreme, the
-- first, the last, any, all, the list, for `group` the results of each key's inputs, for `both` the pair. Source: this project.
use Rattle.std.specs.Prelude.{ℕ, Bool, List, [], ◌∷◌, map, length, Option, ℤ, pos, ◌+ℤ◌, ◌*ℤ◌}
use Rattle.std.specs.List.{list_any, list_all}
use Rattle.std.specs.Int.{w64, int_wrap}
use Rattle.loop_data.specs.declared.value.Value.{Value}
use Rattle.loop_data.specs.declared.tower.Kind.{Kind}
use Rattle.loop_data.specs.declared.tower.Kind.TheOpen.{Kind-F, Kind-F as k}
use Rattle.loop_data.specs.declared.tower.Kind.TheFolds.{fold-Kind}
use Rattle.std.specs.Ordering.{int_cmp}
use Rattle.loop_data.specs.ValueParts.{as_int, as_bool, as_text, left_of, right_of}
use Rattle.loop_data.specs.ValueOrder.{value_cmp}
use Rattle.loop_results.specs.Ends.{first_of, last_of}
use Rattle.loop_results.specs.Extremes.{best_of, is_smaller, is_greater, is_smaller_at, is_greater_at}
use Rattle.loop_results.specs.Groups.{keys_in, inputs_under}

mutual
  -- what a tower's inputs come to
  pub data TowerResult : Type 0 where
    -- of `sum`, `prod` and `count`: a number of any size
    number : ℤ → TowerResult
    -- of `any` and `all`
    truth : Bool → TowerResult
    -- of `min`, `max`, `first` and `last`: a value, or none
    found : Option Value → TowerResult
    -- of `argmin` and `argmax`: a value with the least place where it stands, or none
    found_at : Option (Value × ℤ) → TowerResult
    -- of `list`
    listed : List Value → TowerResult
    -- of `group`
    grouped : GroupResults → TowerResult
    -- of `both`
    both : TowerResult → TowerResult → TowerResult

  -- the results of groups by rising bytes of their keys
  pub data GroupResults : Type 0 where
    no_more : GroupResults
    group : List ℕ → TowerResult → GroupResults → GroupResults

-- the exact sum
abbrev pub sum_of : List ℤ → ℤ
sum_of [] = pos 0
sum_of (n ∷ ns) = n +ℤ sum_of ns

-- the exact product
abbrev pub product_of : List ℤ → ℤ
product_of [] = pos 1
product_of (n ∷ ns) = n *ℤ product_of ns

-- ---- extremes: every Int counts as smaller than every Text, and every Text as smaller than all else

-- the smallest of the values, or none where there are none
abbrev pub least_of : List Value → Option Value
least_of = best_of (is_smaller value_cmp)

-- the largest of the values, or none where there are none
abbrev pub greatest_of : List Value → Option Value
greatest_of = best_of (is_greater value_cmp)

-- the smallest of the values with the least place where it stands, or none where there are none
abbrev pub least_at : List (Value × ℤ) → Option (Value × ℤ)
least_at = best_of (is_smaller_at value_cmp int_cmp)

-- the largest of the values with the least place where it stands, or none where there are none
abbrev pub greatest_at : List (Value × ℤ) → Option (Value × ℤ)
greatest_at = best_of (is_greater_at value_cmp int_cmp)

-- ---- inputs that are pairs

-- an input of `argmin` or `argmax`: a value and its place
abbrev pub value_at_place : Value → Value × ℤ
value_at_place input = (left_of input, as_int (right_of input))

-- an input of `group`: a key and the inner input
abbrev pub input_at_key : Value → List ℕ × Value
input_at_key input = (as_text (left_of input), right_of input)

-- ---- the result

-- what a list of inputs comes to
abbrev pub Folding : Type 0
Folding = List Value → TowerResult

-- the results of the inputs of each of these keys
abbrev pub results_under : Folding → List (List ℕ) → List (List ℕ × Value) → GroupResults
results_under inner [] inputs = no_more
results_under inner (k ∷ ks) inputs = group k (inner (inputs_under k inputs)) (results_under inner ks inputs)

-- the results of the inputs of each key that occurs
abbrev pub results_by_key : Folding → List (List ℕ × Value) → GroupResults
results_by_key inner inputs = results_under inner (keys_in inputs) inputs

-- one layer of a tower, given what its inner towers make
abbrev pub result_step : Kind-F Folding → Folding
result_step k.Sum inputs = number (sum_of (map as_int inputs))
result_step k.Prod inputs = number (int_wrap w64 (product_of (map as_int inputs)))
result_step k.Count inputs = number (pos (length inputs))
result_step k.Least inputs = found (least_of inputs)
result_step k.Greatest inputs = found (greatest_of inputs)
result_step k.LeastAt inputs = found_at (least_at (map value_at_place inputs))
result_step k.GreatestAt inputs = found_at (greatest_at (map value_at_place inputs))
result_step k.First inputs = found (first_of inputs)
result_step k.Last inputs = found (last_of inputs)
result_step k.Any inputs = truth (list_any as_bool inputs)
result_step k.All inputs = truth (list_all as_bool inputs)
result_step k.Listed inputs = listed inputs
result_step (k.Grouped inner) inputs = grouped (results_by_key inner (map input_at_key inputs))
result_step (k.Both l r) inputs = both (l (map left_of inputs)) (r (map right_of inputs))

abbrev pub result_of : Kind → Folding
result_of = fold-Kind Folding result_step
