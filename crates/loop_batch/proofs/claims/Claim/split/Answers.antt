use Rattle.std.proofs.Common.{rules}
use Rattle.loop_batch.proofs.Keeps.{may_split}
use Rattle.loop_batch.proofs.claims.Claim.split.Goals as goal

pub split_seat-new-requires : goal.split_seat-new-requires
split_seat-new-requires c = (search rules, search rules, may_split _ _)
