use Rattle.std.proofs.Common.{rules, arith}
use Rattle.part_deque.proofs.Keeps.{opens}
use Rattle.part_deque.proofs.making.make.Goals as goal

pub another-right-requires : goal.another-right-requires
another-right-requires g c = rw c.in_ok-worker.ensures.4 (opens _ _ _ c.in_ok-worker.ensures.2)

pub invariant_of-thief : goal.invariant_of-thief
invariant_of-thief g c =
    let many = c.in_ok-cut_rights.ensures.many in
    record {
      right = search rules;
      spare = search rules;
      most = omega arith;
      halved = (10, many);
    }
