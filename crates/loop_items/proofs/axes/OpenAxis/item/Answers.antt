use Rattle.std.proofs.Common.{ap, sym, ◌∙◌}
use Rattle.loop_items.specs.Parts.{part_values}
use Rattle.loop_items.proofs.PlacesLemmas.{zip_long, zip_value}
use Rattle.loop_items.proofs.axes.OpenAxis.item.Goals as goal

pub row_at-requires-clause-to : goal.row_at-requires-clause-to
row_at-requires-clause-to c =
    zip_long c.in-Zip.parts.items c.as_slice.result.now c.args.self.now c.args.k c.as_slice.ensures.value (ap part_values (sym c.in-Zip.is) ∙ c.self.view_is) c.requires.from c.requires.to

pub returns-in_ok-row_at-in-Zip : goal.returns-in_ok-row_at-in-Zip
returns-in_ok-row_at-in-Zip c =
    zip_value c.in-Zip.parts.items c.as_slice.result.now c.args.self.now c.args.k c.in_ok-row_at-in-Zip.field-0 c.as_slice.ensures.value (ap part_values (sym c.in-Zip.is) ∙ c.self.view_is) c.requires.from c.requires.to
    c.in_ok-row_at-in-Zip.ensures
