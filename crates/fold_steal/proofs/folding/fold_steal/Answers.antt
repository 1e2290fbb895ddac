use Rattle.splittable.specs.Places.{item_count}
use Rattle.splittable.specs.Nodes.{least_part_of}
use Rattle.piece_ledger.specs.Logs.{outcomes_of}
use Rattle.piece_ledger.proofs.Tallying.{collectable}
use Rattle.fold_steal.proofs.folding.fold_steal.Goals as goal

pub collect-requires-after_bounds : goal.collect-requires-after_bounds
collect-requires-after_bounds g c κs within =
    let job = c.args.job.now in
    collectable (g.J.Job.stands job) (g.J.Job.lens job) (least_part_of c.args.base (item_count (g.J.Job.lens job))) (outcomes_of c.in_ok-logs.logs.items) c.in_ok-logs.ensures.whole c.in_ok-logs.ensures.stands c.in_ok-logs.ensures.right
