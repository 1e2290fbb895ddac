-- The statements of the laws of what states stand for.
-- Source: this project.
use Rattle.std.specs.Prelude.{◌≡◌, ℕ, ◌^◌, ◌≤◌, List, [], ◌++◌, map, length, Bool, All, Option, ℤ, pos, neg_ℤ, ◌≤ℤ◌}
use Rattle.std.specs.Option.{option_map}
use Rattle.std.specs.Ordering.{nat_cmp, int_cmp}
use Rattle.std.specs.declared.cmp.Ordering.{Ordering}
use Rattle.std.specs.Map.{keys_of}
use Rattle.loop_results.specs.Extremes.{best_of, IsFirstExtreme, IsUnbeaten, is_smaller, is_greater, is_smaller_at, is_greater_at}
use Rattle.loop_results.specs.Groups.{keys_in, inputs_under}
use Rattle.loop_results.specs.Laws.{IsAtLeastPlace}
use Rattle.reducer_laws.specs.Groups.{GroupsStand}
use Rattle.reducer_laws.specs.Numbers.{IsSum}
use Rattle.reducer_laws.specs.Standing.{TakesTogether}

-- three states merged either way stand for their three lists together
abbrev pub MergingIsAssociative : {S I : Type 0} → (S → List I → Type 0) → Type 0
MergingIsAssociative {S} {I} stands = (xs ys zs : List I) (x y z xy yz one other : S) → stands x xs → stands y ys → stands z zs →
    TakesTogether stands x y xy → TakesTogether stands xy z one → TakesTogether stands y z yz → TakesTogether stands x yz other →
    stands one (xs ++ ys ++ zs) × stands other (xs ++ ys ++ zs)

-- a state merged with a unit, on either side, stands for what it stood for
abbrev pub UnitsAddNothing : {S I : Type 0} → (S → List I → Type 0) → Type 0
UnitsAddNothing {S} {I} stands = (xs : List I) (unit x left right : S) → stands unit [] → stands x xs →
    TakesTogether stands unit x left → TakesTogether stands x unit right → stands left xs × stands right xs

-- ---- extremes

-- a state is the best of its inputs
abbrev pub StatesAreBest : {T : Type 0} → (T → T → Bool) → Type 0
StatesAreBest {T} beats = (state : Option T) (xs : List T) → IsFirstExtreme beats state xs → state ≡ best_of beats xs

-- what a state holds is an input that none beats, and it holds none exactly where there are no inputs
abbrev pub StatesAreUnbeaten : {T : Type 0} → (T → T → Bool) → Type 0
StatesAreUnbeaten {T} beats = (state : Option T) (xs : List T) → IsFirstExtreme beats state xs → IsUnbeaten beats state xs

-- the smallest value is held with the least place where a value stands that is equal to it
abbrev pub LeastIsHeldAtLeastPlace : {T : Type 0} → (T → T → Ordering) → Type 0
LeastIsHeldAtLeastPlace {T} cmp = (state : Option (T × ℕ)) (xs : List (T × ℕ)) →
    IsFirstExtreme (is_smaller_at cmp nat_cmp) state xs →
    IsAtLeastPlace (is_smaller cmp) cmp (λ p q. p ≤ q) state xs

-- the greatest value is held with the least place where a value stands that is equal to it
abbrev pub GreatestIsHeldAtLeastPlace : {T : Type 0} → (T → T → Ordering) → Type 0
GreatestIsHeldAtLeastPlace {T} cmp = (state : Option (T × ℕ)) (xs : List (T × ℕ)) →
    IsFirstExtreme (is_greater_at cmp nat_cmp) state xs →
    IsAtLeastPlace (is_greater cmp) cmp (λ p q. p ≤ q) state xs

-- a value with its place, an integer of the loop language
abbrev pub at_int_place : {T : Type 0} → T × ℕ → T × ℤ
at_int_place x = (x.0, pos x.1)

-- the least with its place, as a tower's result says it, is what the state holds
abbrev pub LeastStatesSayResults : {T : Type 0} → (T → T → Ordering) → Type 0
LeastStatesSayResults {T} cmp = (state : Option (T × ℕ)) (xs : List (T × ℕ)) →
    IsFirstExtreme (is_smaller_at cmp nat_cmp) state xs →
    best_of (is_smaller_at cmp int_cmp) (map at_int_place xs) ≡ option_map at_int_place state

-- and so is the greatest with its place
abbrev pub GreatestStatesSayResults : {T : Type 0} → (T → T → Ordering) → Type 0
GreatestStatesSayResults {T} cmp = (state : Option (T × ℕ)) (xs : List (T × ℕ)) →
    IsFirstExtreme (is_greater_at cmp nat_cmp) state xs →
    best_of (is_greater_at cmp int_cmp) (map at_int_place xs) ≡ option_map at_int_place state

-- ---- sums and groups

-- the sum of at most 2^62 inputs is at most 2^125 from zero
abbrev pub SumsAreWithinBounds : Type 0
SumsAreWithinBounds = (total : ℤ) (xs : List ℤ) → IsSum total xs → length xs ≤ 2 ^ 62 →
    (neg_ℤ (pos (2 ^ 125)) ≤ℤ total) × (total ≤ℤ pos (2 ^ 125))

-- groups have the keys of their inputs, each once and by rising bytes
abbrev pub GroupsHaveKeysOfInputs : {S I : Type 0} → (S → List I → Type 0) → Type 0
GroupsHaveKeysOfInputs {S} {I} stands = (groups : List (List ℕ × S)) (inputs : List (List ℕ × I)) →
    GroupsStand stands groups inputs → keys_of groups ≡ keys_in inputs

-- and the state of each stands for the inputs of its key
abbrev pub EachGroupStands : {S I : Type 0} → (S → List I → Type 0) → Type 0
EachGroupStands {S} {I} stands = (groups : List (List ℕ × S)) (inputs : List (List ℕ × I)) →
    GroupsStand stands groups inputs → All (λ group. stands group.1 (inputs_under group.0 inputs)) groups
