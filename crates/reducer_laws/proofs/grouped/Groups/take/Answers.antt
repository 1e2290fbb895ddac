use Rattle.std.proofs.Common.{◌≢◌, None, subst}
use Rattle.std.specs.Prelude.{OnOk, IsOk}
use Rattle.reducer_laws.specs.Standing.{TakesNext}
use Rattle.reducer_laws.specs.Groups.{GroupsStand, state_at}
use Rattle.reducer_laws.proofs.grouped.Groups.take.Goals as goal

pub returns-clause-stands : goal.returns-clause-stands
returns-clause-stands g c =
    subst (λ groups. OnOk c.next_under.result (TakesNext (GroupsStand (g.R.Reducer.stands c.args.inner.now)) groups (c.args.key, c.args.input) c.next_under.new.tree.entries)) c.self.view_is c.next_under.ensures.stands

pub returns-clause-free : goal.returns-clause-free
returns-clause-free g c =
    subst (λ groups. g.R.Reducer.is_free c.args.inner.now → state_at c.args.key groups ≢ None → IsOk c.next_under.result) c.self.view_is c.next_under.ensures.free
