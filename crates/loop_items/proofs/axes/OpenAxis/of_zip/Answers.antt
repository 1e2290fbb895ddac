use Rattle.std.proofs.Common.{length, map, ap, sym, ◌∙◌}
use Rattle.loop_meaning.specs.Counts.{least_count}
use Rattle.loop_items.proofs.Counted.{zip_counts}
use Rattle.loop_items.proofs.axes.OpenAxis.of_zip.Goals as goal

pub invariant_of-result : goal.invariant_of-result
invariant_of-result c =
    (c.least_len-len.ensures.value ∙ ap (λ xs. least_count (map length xs)) c.as_slice.ensures.value ∙ sym (zip_counts c.args.parts.items), c.least_len-len.ensures.few)
