-- The values of an open axis: those of its one part, or those of a zip's parts side by side.
-- Source: this project's representation.
use Rattle.std.specs.Prelude.{List, map}
use Rattle.loop_data.specs.declared.value.Value.{Value}
use Rattle.loop_data.specs.declared.value.Value.TheVariants.{Tuple}
use Rattle.loop_meaning.specs.Items.{side_by_side}
use Rattle.loop_items.specs.declared.axes.Parts.{Parts}
use Rattle.loop_items.specs.declared.axes.Parts.TheVariants.{One, Zip}

abbrev pub part_values : Parts → List Value
part_values (One values) = values
part_values (Zip parts) = map Tuple (side_by_side parts.items)
