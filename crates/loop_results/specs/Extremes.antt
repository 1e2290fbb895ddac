-- The extreme of a list under an order: which of two inputs beats the other, and the first input that no other beats.
-- Source: this project; of equals the first is kept, as by a loop from left to right that replaces only what is beaten.
use Rattle.std.specs.Prelude.{◌≡◌, Bool, true, false, if◌then◌else◌, List, [], ◌∷◌, ◌++◌, All, Contains, Option, Some, None}
use Rattle.std.specs.Ordering.{is_lt, ordering_then}
use Rattle.std.specs.declared.cmp.Ordering.{Ordering}

-- the input, unless the best of those after it beats it
abbrev pub or_better : {T : Type 0} → (T → T → Bool) → T → Option T → T
or_better beats x None = x
or_better beats x (Some y) = if beats y x then y else x

-- the first of the inputs that no input beats, or none where there are none
abbrev pub best_of : {T : Type 0} → (T → T → Bool) → List T → Option T
best_of beats [] = None
best_of beats (x ∷ xs) = Some (or_better beats x (best_of beats xs))

-- said of where it stands: it beats each input before it, and none after it beats it
abbrev pub IsFirstExtreme : {T : Type 0} → (T → T → Bool) → Option T → List T → Type 0
IsFirstExtreme beats None xs = xs ≡ []
IsFirstExtreme {T} beats (Some x) xs = (before : List T) × (after : List T) × (xs ≡ before ++ x ∷ after) ×
    All (λ y. beats x y ≡ true) before × All (λ y. beats y x ≡ false) after

-- it is an input that none beats, and there is none exactly where there are no inputs
abbrev pub IsUnbeaten : {T : Type 0} → (T → T → Bool) → Option T → List T → Type 0
IsUnbeaten beats None xs = xs ≡ []
IsUnbeaten beats (Some x) xs = Contains xs x × All (λ y. beats y x ≡ false) xs

-- ---- the orders

-- the smaller beats
abbrev pub is_smaller : {T : Type 0} → (T → T → Ordering) → T → T → Bool
is_smaller cmp x y = is_lt (cmp x y)

-- the greater beats
abbrev pub is_greater : {T : Type 0} → (T → T → Ordering) → T → T → Bool
is_greater cmp x y = is_lt (cmp y x)

-- of values with their places the smaller value beats, and of equal values the one at the lesser place
abbrev pub is_smaller_at : {T P : Type 0} → (T → T → Ordering) → (P → P → Ordering) → T × P → T × P → Bool
is_smaller_at cmp places x y = is_lt (ordering_then (cmp x.0 y.0) (places x.1 y.1))

-- of values with their places the greater value beats, and of equal values the one at the lesser place
abbrev pub is_greater_at : {T P : Type 0} → (T → T → Ordering) → (P → P → Ordering) → T × P → T × P → Bool
is_greater_at cmp places x y = is_lt (ordering_then (cmp y.0 x.0) (places x.1 y.1))
