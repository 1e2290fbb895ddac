use Rattle.std.proofs.Common.{subst, sym}
use Rattle.std.specs.Prelude.{[]}
use Rattle.reducer_laws.specs.Groups.{GroupsStand}
use Rattle.reducer_laws.proofs.GroupLemmas.{group_none}
use Rattle.reducer_laws.proofs.grouped.GroupedReducer.unit.Goals as goal

pub returns-clause-stands : goal.returns-clause-stands
returns-clause-stands g c =
    subst (λ groups. GroupsStand (g.R.Reducer.stands c.args.self.now.inner) groups []) (sym c.new.ensures) (group_none (g.R.Reducer.stands c.args.self.now.inner))
