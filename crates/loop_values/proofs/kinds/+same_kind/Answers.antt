use Rattle.std.proofs.Common.{arith}
use Rattle.std.proofs.lemmas.Grind.{common_steps}
use Rattle.loop_values.proofs.KindLemmas.{same_kind-Tuple, same_all-lengths}
use Rattle.loop_values.proofs.kinds.+same_kind.Goals as goal

pub returns-then-xs-ys : goal.returns-then-xs-ys
returns-then-xs-ys t c =
    let e = same_all-lengths c.as_slice-xs.result.now c.as_slice-ys.result.now c.if-xs-ys.true in
    let s = same_kind-Tuple c.in-Tuple-Tuple.a c.in-Tuple-Tuple.b in
    cc

pub returns-then-not-same_kind : goal.returns-then-not-same_kind
returns-then-not-same_kind t c = grind (arith, common_steps, same_kind-Tuple)

pub returns-after-loop-i : goal.returns-after-loop-i
returns-after-loop-i t c = grind (arith, common_steps, same_kind-Tuple)
