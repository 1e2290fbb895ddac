-- Entries of a tree by text, read by the bytes of their keys.
-- Source: this project.
use Rattle.std.specs.Prelude.{ℕ, List, map, String, string_bytes}

-- the entries, each under the bytes of its key
abbrev pub by_bytes : {A X : Type 0} → List (String A × X) → List (List ℕ × X)
by_bytes entries = map (λ e. (string_bytes e.0, e.1)) entries
