use Rattle.std.proofs.Common.{subst}
use Rattle.reducer_laws.specs.Standing.{MayMerge}
use Rattle.reducer_tower.specs.declared.state.TowerState.TheVariants as state
use Rattle.reducer_tower.specs.Stands.{SumStands}
use Rattle.reducer_tower.proofs.TowerLemmas.{sum_merged}
use Rattle.reducer_tower.proofs.leaves.sum_merge.Goals as goal

pub returns-in_ok-merge-in-Sum-right : goal.returns-in_ok-merge-in-Sum-right
returns-in_ok-merge-in-Sum-right c =
    let one = subst (λ l. MayMerge SumStands l c.args.right) c.in-Sum.is c.requires in
    let may = subst (λ r. MayMerge SumStands (state.Sum c.in-Sum.left) r) c.in-Sum-right.is one in
    rw (c.in-Sum.is, c.in-Sum-right.is) (sum_merged c.in-Sum.left c.in-Sum-right.right c.in_ok-merge-in-Sum-right.field-0 may c.in_ok-merge-in-Sum-right.ensures.stands)
