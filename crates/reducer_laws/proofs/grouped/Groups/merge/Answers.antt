use Rattle.std.proofs.Common.{subst}
use Rattle.reducer_laws.specs.Standing.{TakesTogether}
use Rattle.reducer_laws.specs.Groups.{GroupsStand}
use Rattle.reducer_laws.proofs.GroupLemmas.{groups_together, no_left}
use Rattle.reducer_laws.proofs.grouped.Groups.merge.Goals as goal

pub returns-clause-stands : goal.returns-clause-stands
returns-clause-stands g c =
    let stands = g.R.Reducer.stands c.args.inner.now in
    let whole = c.in_ok-tree.tree.entries in
    let both = groups_together stands c.left.inside.tree.entries c.right.inside.tree.entries whole c.in_ok-tree.ensures in
    let one = subst (λ l. TakesTogether (GroupsStand stands) l c.right.inside.tree.entries whole) c.left.view_is both in
    subst (λ r. TakesTogether (GroupsStand stands) c.args.left r whole) c.right.view_is one
