-- What a read by name answers, where it is told what is held.
-- Source: this project.
use Rattle.std.specs.Prelude.{◌≡◌, ℕ, ◌≤◌, List, ◌++◌, length, Option, Some, None, Result, Ok, Err, IsOk, nat_le, if◌then◌else◌}
use Rattle.std.specs.Ordering.{nat_cmp}
use Rattle.std.specs.Cmp.Lexicographic.{slice_cmp}
use Rattle.std.specs.FinMap.{FinMap}
use Rattle.edge_io.specs.declared.files.ReadStop.{ReadStop}
use Rattle.edge_io.specs.declared.files.ReadStop.TheVariants.{Failed, TooLong, NoMemory, NotHeld}

-- what is held: bytes by name, both as lists of bytes
abbrev pub Held : Type 0
Held = FinMap (slice_cmp nat_cmp) (List ℕ)

-- the number of each cause
abbrev pub stop_number : ReadStop → ℕ
stop_number Failed = 1
stop_number TooLong = 2
stop_number NoMemory = 3
stop_number NotHeld = 4

-- The answer of a read of at most `limit` bytes, where the bytes under the name are these or the
-- name isn't held, no read fails and memory is there.
abbrev pub read_answer : Option (List ℕ) → ℕ → Result (List ℕ) ReadStop
read_answer None limit = Err NotHeld
read_answer (Some bytes) limit = if nat_le (length bytes) limit then Ok bytes else Err TooLong

-- A read gives this answer: it is Ok and the bytes follow what the list held, or it is this refusal.
abbrev pub Reads : {T : Type 0} → Result (List ℕ) ReadStop → Result T ReadStop → List ℕ → List ℕ → Type 0
Reads (Ok bytes) result before now = IsOk result × (now ≡ before ++ bytes)
Reads (Err stop) result before now = result ≡ Err stop

-- the list now is the list before, followed by at most `limit` items
pub record GrowsByAtMost (limit : ℕ) (before now : List ℕ) : Type 0 where
  pub grown : List ℕ
  pub follows : now ≡ before ++ grown
  pub bounded : length grown ≤ limit
