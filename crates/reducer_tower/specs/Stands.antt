-- What the state of a tower says of the list of its inputs, for each kind and nesting: what the reducer of the kind says.
-- Source: this project.
use Rattle.std.specs.Prelude.{◌≡◌, ℕ, Bool, List, All, map, length, Option}
use Rattle.loop_data.specs.declared.value.Value.{Value}
use Rattle.loop_data.specs.declared.tower.Kind.{Kind}
use Rattle.loop_data.specs.declared.tower.Kind.TheOpen.{Kind-F, Kind-F as k}
use Rattle.loop_data.specs.declared.tower.Kind.TheFolds.{rec-Kind}
use Rattle.loop_data.specs.ValueOrder.{value_cmp}
use Rattle.loop_data.specs.ValueParts.{as_int, as_bool, left_of, right_of}
use Rattle.std.specs.Ordering.{nat_cmp}
use Rattle.loop_results.specs.Ends.{first_of, last_of}
use Rattle.loop_results.specs.Extremes.{IsFirstExtreme, is_smaller, is_greater, is_smaller_at, is_greater_at}
use Rattle.loop_results.specs.Results.{input_at_key}
use Rattle.reducer_laws.specs.Ends.{IsAny, IsAll}
use Rattle.reducer_laws.specs.Numbers.{IsSum, IsProduct}
use Rattle.reducer_laws.specs.Groups.{GroupsStand}
use Rattle.reducer_tower.specs.declared.state.TowerState.{TowerState, out-TowerState}
use Rattle.reducer_tower.specs.declared.state.TowerState.TheOpen.{TowerState-F, TowerState-F as s}
use Rattle.reducer_tower.specs.Inputs.{at_place, HasPlace}

-- a relation between states and lists of inputs
abbrev pub Standing : Type 1
Standing = TowerState → List Value → Type 0

-- ---- what a state that is of the kind's form says; one of another form stands for nothing

abbrev pub sum_in : TowerState-F TowerState → List Value → Type 0
sum_in (s.Sum total) inputs = IsSum total (map as_int inputs)
sum_in _ inputs = ⊥

abbrev pub prod_in : TowerState-F TowerState → List Value → Type 0
prod_in (s.Prod product) inputs = IsProduct product (map as_int inputs)
prod_in _ inputs = ⊥

abbrev pub count_in : TowerState-F TowerState → List Value → Type 0
count_in (s.Count n) inputs = n ≡ length inputs
count_in _ inputs = ⊥

abbrev pub truth_in : (Bool → List Bool → Type 0) → TowerState-F TowerState → List Value → Type 0
truth_in says (s.Truth b) inputs = says b (map as_bool inputs)
truth_in says _ inputs = ⊥

abbrev pub found_in : (Option Value → List Value → Type 0) → TowerState-F TowerState → List Value → Type 0
found_in says (s.Found x) inputs = says x inputs
found_in says _ inputs = ⊥

abbrev pub placed_in : (Option (Value × ℕ) → List (Value × ℕ) → Type 0) → TowerState-F TowerState → List Value → Type 0
placed_in says (s.FoundAt x) inputs = All HasPlace inputs × says x (map at_place inputs)
placed_in says _ inputs = ⊥

abbrev pub listed_in : TowerState-F TowerState → List Value → Type 0
listed_in (s.Listed xs) inputs = xs ≡ inputs
listed_in _ inputs = ⊥

abbrev pub grouped_in : Standing → TowerState-F TowerState → List Value → Type 0
grouped_in inner (s.Grouped groups) inputs = GroupsStand inner groups (map input_at_key inputs)
grouped_in inner _ inputs = ⊥

abbrev pub both_in : Standing → Standing → TowerState-F TowerState → List Value → Type 0
both_in left right (s.Both a b) inputs = left a (map left_of inputs) × right b (map right_of inputs)
both_in left right _ inputs = ⊥

-- ---- the relations

-- the exact sum of the inputs
abbrev pub SumStands : Standing
SumStands state inputs = sum_in (out-TowerState state) inputs

-- their product, wrapped to 64 bits
abbrev pub ProdStands : Standing
ProdStands state inputs = prod_in (out-TowerState state) inputs

-- their number
abbrev pub CountStands : Standing
CountStands state inputs = count_in (out-TowerState state) inputs

-- a truth value that says this of them
abbrev pub TruthStands : (Bool → List Bool → Type 0) → Standing
TruthStands says state inputs = truth_in says (out-TowerState state) inputs

-- an input, or none, that is this of them
abbrev pub FoundStands : (Option Value → List Value → Type 0) → Standing
FoundStands says state inputs = found_in says (out-TowerState state) inputs

-- an input with its place, or none, that is this of them
abbrev pub PlacedStands : (Option (Value × ℕ) → List (Value × ℕ) → Type 0) → Standing
PlacedStands says state inputs = placed_in says (out-TowerState state) inputs

-- the inputs themselves
abbrev pub ListStands : Standing
ListStands state inputs = listed_in (out-TowerState state) inputs

-- for each key that occurs, a state that stands for the inner inputs of that key, in order
abbrev pub GroupedStand : Standing → Standing
GroupedStand inner state inputs = grouped_in inner (out-TowerState state) inputs

-- the left state stands for the left parts of the inputs, and the right state for the right parts
abbrev pub BothStand : Standing → Standing → Standing
BothStand left right state inputs = both_in left right (out-TowerState state) inputs

abbrev pub IsFirst : Option Value → List Value → Type 0
IsFirst x inputs = x ≡ first_of inputs

abbrev pub IsLast : Option Value → List Value → Type 0
IsLast x inputs = x ≡ last_of inputs

-- one layer of a kind, given what states of its inner kinds stand for
abbrev pub stands_step : {X : Type 0} → (X → Standing) → Kind-F X → Standing
stands_step inner k.Sum = SumStands
stands_step inner k.Prod = ProdStands
stands_step inner k.Count = CountStands
stands_step inner k.Least = FoundStands (IsFirstExtreme (is_smaller value_cmp))
stands_step inner k.Greatest = FoundStands (IsFirstExtreme (is_greater value_cmp))
stands_step inner k.LeastAt = PlacedStands (IsFirstExtreme (is_smaller_at value_cmp nat_cmp))
stands_step inner k.GreatestAt = PlacedStands (IsFirstExtreme (is_greater_at value_cmp nat_cmp))
stands_step inner k.First = FoundStands IsFirst
stands_step inner k.Last = FoundStands IsLast
stands_step inner k.Any = TruthStands IsAny
stands_step inner k.All = TruthStands IsAll
stands_step inner k.Listed = ListStands
stands_step inner (k.Grouped f) = GroupedStand (inner f)
stands_step inner (k.Both f g) = BothStand (inner f) (inner g)

-- the state stands for the list of inputs, in a tower of this kind
abbrev pub Stands : Kind → Standing
Stands = rec-Kind Standing (λ X whole inner layer. stands_step inner layer)
