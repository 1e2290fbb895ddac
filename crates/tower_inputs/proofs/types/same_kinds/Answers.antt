use Rattle.tower_inputs.proofs.SameKinds.{same_kinds-lengths}
use Rattle.tower_inputs.proofs.types.same_kinds.Goals as goal

pub returns-then-a-b : goal.returns-then-a-b
returns-then-a-b c =
    let e = same_kinds-lengths c.args.a.now c.args.b.now c.if-a-b.true in
    cc
