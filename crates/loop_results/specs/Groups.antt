-- Inputs by their keys: which keys there are, by rising bytes, and the inner inputs of each. An input is the pair of its key and
-- the inner input. Source: this project.
use Rattle.std.specs.Prelude.{ℕ, List, [], ◌∷◌, map, filter}
use Rattle.std.specs.Ordering.{nat_cmp, match_ordering}
use Rattle.std.specs.Cmp.Lexicographic.{slice_cmp}
use Rattle.std.specs.List.Sorted.{IsStrictlySortedBy}
use Rattle.std.specs.Str.{bytes_eq}

-- the keys rise by their bytes, so that none stands twice
abbrev pub Rise : List (List ℕ) → Type 0
Rise keys = IsStrictlySortedBy (slice_cmp nat_cmp) keys

-- rising keys with one more in its place, or as they are where it stands there
abbrev pub with_key : List ℕ → List (List ℕ) → List (List ℕ)
with_key k [] = k ∷ []
with_key k (j ∷ ks) = match_ordering (slice_cmp nat_cmp k j) (k ∷ j ∷ ks) (j ∷ ks) (j ∷ with_key k ks)

-- the keys of the inputs, each once, by rising bytes
abbrev pub keys_in : {I : Type 0} → List (List ℕ × I) → List (List ℕ)
keys_in [] = []
keys_in (i ∷ is) = with_key i.0 (keys_in is)

-- the inner inputs of one key, in order
abbrev pub inputs_under : {I : Type 0} → List ℕ → List (List ℕ × I) → List I
inputs_under k inputs = map (λ i. i.1) (filter (λ i. bytes_eq k i.0) inputs)
