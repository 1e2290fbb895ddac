-- The values of an open range or column.
-- Source: this project's representation.
use Rattle.std.specs.Prelude.{List, map}
use Rattle.loop_data.specs.declared.value.Value.{Value}
use Rattle.loop_data.specs.declared.value.Value.TheVariants.{Int, Text}
use Rattle.loop_items.specs.declared.collections.Held.{Held}
use Rattle.loop_items.specs.declared.collections.Held.TheVariants.{Numbers, Texts}

abbrev pub held_values : Held → List Value
held_values (Numbers numbers) = map Int numbers
held_values (Texts texts) = map Text texts
