use Rattle.std.proofs.Common.{rules, option_to_list}
use Rattle.fold_steal.specs.Joins.{rows_of}
use Rattle.fold_steal.proofs.NewSteps.{node_at, deques_more}
use Rattle.fold_steal.proofs.making.make_deques.Goals as goal

pub new_deque-requires-clause-node : goal.new_deque-requires-clause-node
new_deque-requires-clause-node c =
    node_at c.args.shape.now c.args.least c.loop-number.number c.args.parts.now (option_to_list c.part_at-dealt.result) c.requires.nodes c.part_at-dealt.ensures

pub loop-number-preserved : goal.loop-number-preserved
loop-number-preserved c =
    deques_more c.args.shape.now c.args.least c.loop-number.number c.args.workers c.args.parts.now (option_to_list c.part_at-dealt.result) c.loop-number.owners.items c.push.new.self.items (rows_of c.loop-number.rows) (rows_of c.hand_out.new.rows)
    c.in_ok-owner.owner c.in_ok-owner.thief c.new-ends.result.items c.cut_ends.new.ends.items c.loop-number.invariant c.part_at-dealt.ensures c.in_ok-owner.ensures.owner c.in_ok-owner.ensures.thief c.in_ok-owner.ensures.weight
    c.in_ok-push.ensures.items c.new-ends.ensures.items c.in_ok-cut_ends.ensures c.in_ok-hand_out.ensures
