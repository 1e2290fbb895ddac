use Rattle.std.proofs.Common.{rules}
use Rattle.loop_batch.proofs.Keeps.{may_join, may_look}
use Rattle.loop_batch.proofs.claims.Claim.join.Goals as goal

pub join_seat-requires : goal.join_seat-requires
join_seat-requires c = (search rules, search rules, c.other.invariant.empty, search rules, may_join _ _ _ _)

pub load-requires : goal.load-requires
load-requires c = (search rules, search rules, may_look _ _ _)
