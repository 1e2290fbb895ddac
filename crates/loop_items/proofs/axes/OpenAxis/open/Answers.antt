use Rattle.std.proofs.Common.{◌≡◌, Ok, Err, ap, sym, ◌∙◌}
use Rattle.std.specs.FinMap.{get}
use Rattle.loop_data.specs.declared.head.Axis.TheVariants.{Zip}
use Rattle.loop_meaning.specs.Items.{sources}
use Rattle.loop_items.proofs.OpeningLemmas.{handed_on, zip_opened, zip_refused}
use Rattle.loop_items.proofs.axes.OpenAxis.open.Goals as goal

pub returns-in_err-parts-in-Zip : goal.returns-in_err-parts-in-Zip
returns-in_err-parts-in-Zip c known =
    let same = handed_on c.from_residual.result c.in_err-parts-in-Zip.field-0.0 c.from_residual.ensures.1 in
    let zip : c.args.axis.now ≡ Zip c.as_slice.result.now = c.in-Zip.is ∙ ap Zip (sym c.as_slice.ensures) in
    same
    ∙ zip_refused c.args.line c.args.axis.now c.as_slice.result.now (sources (get c.args.names.now) c.args.table.now) zip c.in_err-parts-in-Zip.field-0.0
    (c.in_err-parts-in-Zip.ensures (λ none. known (same ∙ ap Err none)))

pub returns-in_ok-parts-in-Zip : goal.returns-in_ok-parts-in-Zip
returns-in_ok-parts-in-Zip c known =
    let zip : c.args.axis.now ≡ Zip c.as_slice.result.now = c.in-Zip.is ∙ ap Zip (sym c.as_slice.ensures) in
    ap Ok c.of_zip.ensures
    ∙ zip_opened c.args.line c.args.axis.now c.as_slice.result.now (sources (get c.args.names.now) c.args.table.now) zip c.in_ok-parts-in-Zip.parts.items c.in_ok-parts-in-Zip.ensures
