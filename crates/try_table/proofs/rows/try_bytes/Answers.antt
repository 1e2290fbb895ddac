use Rattle.std.proofs.Common.{◌∙◌}
use Rattle.try_table.proofs.RowLemmas.{row_written, all_written}
use Rattle.try_table.proofs.rows.try_bytes.Goals as goal

pub loop-row-preserved : goal.loop-row-preserved
loop-row-preserved c =
    row_written c.loop-row.text.items c.add_row.new.text.items c.args.rows c.loop-row._row c.loop-row.x c.number_after-x.result
    c.loop-row-test.true c.number_after-x.ensures c.in_ok-add_row.ensures
    ∙ c.loop-row.invariant

pub returns : goal.returns
returns c =
    all_written c.loop-row.text.items _ c.args.rows c.loop-row._row c.loop-row.x c.loop-row-test.false c.loop-row.invariant
