use Rattle.fold_steal.specs.Deals.{first_deal}
use Rattle.fold_steal.proofs.AllSteps.{new_may_turn}
use Rattle.fold_steal.proofs.folding.steal_logs.Goals as goal

pub crew_logs-requires-clause-may : goal.crew_logs-requires-clause-may
crew_logs-requires-clause-may g c κs within =
    let crew = c.in_ok-crew.crew in
    new_may_turn (g.J.Job.stands c.args.job.now) crew (first_deal crew.lens crew.least c.args.workers) c.in_ok-crew.seats.items c.in_ok-crew.ensures.seats
