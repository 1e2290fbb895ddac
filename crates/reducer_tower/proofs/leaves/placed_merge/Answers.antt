use Rattle.reducer_tower.proofs.TowerLemmas.{placed_merged}
use Rattle.reducer_tower.proofs.leaves.placed_merge.Goals as goal

pub returns-in_ok-merge-in-FoundAt-right : goal.returns-in_ok-merge-in-FoundAt-right
returns-in_ok-merge-in-FoundAt-right g c =
    rw (c.in-FoundAt.is, c.in-FoundAt-right.is)
    (placed_merged (g.R.Reducer.stands c.args.by.now) c.in-FoundAt.left c.in-FoundAt-right.right c.in_ok-merge-in-FoundAt-right.field-0 c.in_ok-merge-in-FoundAt-right.ensures.stands)
