use Rattle.reducer_tower.proofs.TowerLemmas.{grouped_merged}
use Rattle.reducer_tower.proofs.nested.grouped_merge.Goals as goal

pub returns-in_ok-merge-in-Grouped-right : goal.returns-in_ok-merge-in-Grouped-right
returns-in_ok-merge-in-Grouped-right g c =
    rw (c.in-Grouped.is, c.in-Grouped-right.is)
    (grouped_merged (g.N.Nested.stands c.args.inner.now) c.in-Grouped.left c.in-Grouped-right.right c.in_ok-merge-in-Grouped-right.field-0 c.in_ok-merge-in-Grouped-right.ensures.stands)
