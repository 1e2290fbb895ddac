use Rattle.std.proofs.Common.{rules, ◌<◌, ◌≤◌, ◌∙◌, ap, drop, length}
use Rattle.fold_steal.specs.Joins.{rows_of}
use Rattle.fold_steal.proofs.RowSteps.{many_rows}
use Rattle.fold_steal.proofs.HandSteps.{handed_here, handed_all, left_more}
use Rattle.fold_steal.proofs.making.hand_out.Goals as goal

pub loop-k-preserved : goal.loop-k-preserved
loop-k-preserved c =
    let was = rows_of c.args.rows.now in
    let many = many_rows c.args.rows.now.items in
    let lt : c.loop-k.k < length was = search rules in (
      handed_here c.loop-k.rows.items was c.args.ends.items c.loop-k.ends.items c.loop-k.k c.index_mut-row.result.now c.push.new.self c.remove.result c.loop-k.invariant.0 c.loop-k.invariant.1 c.index_mut-row.ensures.value c.remove.ensures.value
          (search rules) lt c.requires.many,
      c.remove.ensures.items ∙ ap (drop 1) c.loop-k.invariant.1 ∙ left_more c.loop-k.k c.args.ends.items,
      c.loop-k.invariant.2,
    )

pub returns : goal.returns
returns c =
    let was = rows_of c.args.rows.now in
    let many = many_rows c.args.rows.now.items in
    let all : length was ≤ c.loop-k.k = search rules in
    c.loop-k.invariant.0 ∙ handed_all c.loop-k.k was c.args.ends.items all c.requires.many
