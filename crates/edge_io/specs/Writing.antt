-- What a put leaves of what was written.
-- Source: this project.
use Rattle.std.specs.Prelude.{◌≡◌, ℕ, List, ◌++◌, take, Option, Some, None}

-- The piece follows what was written before, where that is told; else it isn't told afterwards either.
abbrev pub Puts : Option (List ℕ) → Option (List ℕ) → List ℕ → Type 0
Puts None now piece = now ≡ None
Puts (Some before) now piece = now ≡ Some (before ++ piece)

-- a prefix of the piece, of some length up to its own, so follows what was written before
abbrev pub PutsPrefix : Option (List ℕ) → Option (List ℕ) → List ℕ → Type 0
PutsPrefix before now piece = (kept : ℕ) × Puts before now (take kept piece)

-- the room of a sink that is never full
abbrev pub endless_room : ℕ
endless_room = 18446744073709551615
