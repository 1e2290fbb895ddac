-- What the states of `AnyOf`, `AllOf` and `Both` say of the list of their inputs.
-- Source: this project.
use Rattle.std.specs.Prelude.{◌≡◌, Bool, List, map}
use Rattle.std.specs.List.{list_any, list_all}

-- the state says whether any of the inputs is true
abbrev pub IsAny : Bool → List Bool → Type 0
IsAny state xs = state ≡ list_any (λ x. x) xs

-- the state says whether all of the inputs are true
abbrev pub IsAll : Bool → List Bool → Type 0
IsAll state xs = state ≡ list_all (λ x. x) xs

-- the left state stands for the left halves of the inputs, and the right state for the right halves
abbrev pub BothStand : {S I T J : Type 0} → (S → List I → Type 0) → (T → List J → Type 0) → S × T → List (I × J) → Type 0
BothStand left right state xs = left state.0 (map (λ x. x.0) xs) × right state.1 (map (λ x. x.1) xs)
