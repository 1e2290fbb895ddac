use Rattle.std.proofs.Common.{◌∙◌}
use Rattle.column_input.proofs.KeptLemmas.{file_there, same_there, wanted_further, wanted_here}
use Rattle.column_input.proofs.table.Table.text.Goals as goal

pub loop-row-preserved : goal.loop-row-preserved
loop-row-preserved c =
    let there = file_there c.self.inside.chunks.items c.loop-row.file c.loop-row.row c.loop-row.invariant.below in
    let same = same_there c.self.inside.chunks.items c.loop-row.file c.index-in-loop-row.result.now c.index.result.now there c.index-in-loop-row.ensures c.index.ensures in
    rw (c.rows-row.ensures, same)
    (wanted_further c.self.inside.chunks.items c.args.row c.loop-row.file c.loop-row.row c.index.result.now c.loop-row.invariant c.index.ensures (rw c.rows.ensures at c.loop-row-test.true))

pub returns : goal.returns
returns c =
    let there = file_there c.self.inside.chunks.items c.loop-row.file c.loop-row.row c.loop-row.invariant.below in
    let same = same_there c.self.inside.chunks.items c.loop-row.file c.index.result.now c.index-2.result.now there c.index.ensures c.index-2.ensures in
    rw (← c.self.view_is)
    (wanted_here c.self.inside.chunks.items c.args.row c.loop-row.file c.loop-row.row c.args.column c.index-2.result.now c.loop-row.invariant c.index-2.ensures (rw (c.rows.ensures, same) at c.loop-row-test.false))
    ∙ c.text.ensures
