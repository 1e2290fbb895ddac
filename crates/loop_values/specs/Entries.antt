-- A list of entries in which one key is set: its first entry is replaced, or a new one stands last.
-- Source: this project.
use Rattle.std.specs.Prelude.{ℕ, List, [], ◌∷◌, if◌then◌else◌}
use Rattle.std.specs.Str.{bytes_eq}

abbrev pub with_entry : {X : Type 0} → List (List ℕ × X) → List ℕ → X → List (List ℕ × X)
with_entry [] k v = (k, v) ∷ []
with_entry (e ∷ es) k v = if bytes_eq k e.0 then (e.0, v) ∷ es else e ∷ with_entry es k v
