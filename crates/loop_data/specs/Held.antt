-- The bytes of a text, whether it stands in the value itself or on the heap.
-- Source: this project.
use Rattle.std.specs.Prelude.{ℕ, List, string_bytes}
use Rattle.loop_data.specs.declared.text.Held.{Held}
use Rattle.loop_data.specs.declared.text.Held.TheVariants.{Short, Long}

abbrev pub held_bytes : Held → List ℕ
held_bytes (Short t) = t.bytes
held_bytes (Long t) = string_bytes t
