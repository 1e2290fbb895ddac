-- The statements of the laws of results: extremes and their places, and the keys of groups.
-- Source: this project.
use Rattle.std.specs.Prelude.{◌≡◌, ◌≢◌, ◌↔◌, ℕ, ◌≤◌, Bool, true, false, List, [], ◌∷◌, All, Contains, Option, Some, None, codes}
use Rattle.std.specs.Prelude.{ℤ, pos, ◌≤ℤ◌}
use Rattle.std.specs.declared.cmp.Ordering.{Ordering}
use Rattle.std.specs.declared.cmp.Ordering.TheVariants.{Less, Equal}
use Rattle.loop_data.specs.declared.value.Value.{Value}
use Rattle.loop_data.specs.declared.value.Value.TheVariants.{Int, Bool as Truth, Text}
use Rattle.loop_data.specs.ValueOrder.{value_cmp, value_rank}
use Rattle.loop_results.specs.Extremes.{IsUnbeaten, is_smaller, is_greater}
use Rattle.loop_results.specs.Groups.{Rise, keys_in, inputs_under}
use Rattle.loop_results.specs.Results.{least_of, greatest_of, least_at, greatest_at}

-- ---- extremes

-- the least of inputs is one of them, none is smaller, and there is none exactly where there are no inputs
abbrev pub LeastIsUnbeaten : Type 0
LeastIsUnbeaten = (xs : List Value) → IsUnbeaten (is_smaller value_cmp) (least_of xs) xs

-- the greatest of inputs is one of them, none is greater, and there is none exactly where there are no inputs
abbrev pub GreatestIsUnbeaten : Type 0
GreatestIsUnbeaten = (xs : List Value) → IsUnbeaten (is_greater value_cmp) (greatest_of xs) xs

-- a number comes before a text, and both come before whatever is neither
abbrev pub NumbersThenTextsThenAllElse : Type 0
NumbersThenTextsThenAllElse = (n : ℤ) (t : List ℕ) (x : Value) → 2 ≤ value_rank x →
    (value_cmp (Int n) (Text t) ≡ Less) × (value_cmp (Int n) x ≡ Less) × (value_cmp (Text t) x ≡ Less)

-- of true, "a" and 7 the least is 7, and the greatest is true
abbrev pub TruthTextAndNumber : Type 0
TruthTextAndNumber = let mixed : List Value = Truth true ∷ Text (codes "a") ∷ Int (pos 7) ∷ [] in
    (least_of mixed ≡ Some (Int (pos 7))) × (greatest_of mixed ≡ Some (Truth true))

-- ---- places

-- a value with a place is an input, no input's value beats it, and none that is equal to it stands at a lesser place
abbrev pub IsAtLeastPlace : {T P : Type 0} → (T → T → Bool) → (T → T → Ordering) → (P → P → Type 0) → Option (T × P) →
    List (T × P) → Type 0
IsAtLeastPlace beats cmp AtMost None xs = xs ≡ []
IsAtLeastPlace beats cmp AtMost (Some x) xs = Contains xs x × All (λ y. beats y.0 x.0 ≡ false) xs ×
    All (λ y. cmp y.0 x.0 ≡ Equal → AtMost x.1 y.1) xs

-- the least with its place stands at the least place where it stands
abbrev pub LeastIsAtLeastPlace : Type 0
LeastIsAtLeastPlace = (xs : List (Value × ℤ)) → IsAtLeastPlace (is_smaller value_cmp) value_cmp (λ p q. p ≤ℤ q) (least_at xs) xs

-- the greatest with its place stands at the least place where it stands
abbrev pub GreatestIsAtLeastPlace : Type 0
GreatestIsAtLeastPlace = (xs : List (Value × ℤ)) →
    IsAtLeastPlace (is_greater value_cmp) value_cmp (λ p q. p ≤ℤ q) (greatest_at xs) xs

-- ---- keys

-- the keys of inputs rise by their bytes, so that none stands twice
abbrev pub KeysRise : Type 0 → Type 0
KeysRise I = (inputs : List (List ℕ × I)) → Rise (keys_in inputs)

-- and they are exactly the keys under which there are inputs
abbrev pub KeysAreThoseThatOccur : Type 0 → Type 0
KeysAreThoseThatOccur I = (inputs : List (List ℕ × I)) (k : List ℕ) → Contains (keys_in inputs) k ↔ (inputs_under k inputs ≢ [])
