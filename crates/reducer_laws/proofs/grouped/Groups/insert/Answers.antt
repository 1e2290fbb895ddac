use Rattle.std.proofs.Common.{ap, sym, ◌∙◌, Some, subst}
use Rattle.reducer_laws.specs.Groups.{HoldsAt, state_at}
use Rattle.reducer_laws.proofs.GroupLemmas.{found, updated}
use Rattle.reducer_laws.proofs.grouped.Groups.insert.Goals as goal

pub returns-clause-holds : goal.returns-clause-holds
returns-clause-holds g c =
    subst (λ groups. HoldsAt c.args.key c.args.state groups c.insert.new.self.entries) c.self.view_is
    (record { rising = c.in_ok-insert.ensures.ordered; each = updated c.self.inside.tree c.insert.new.self c.args.key (Some c.args.state) c.in_ok-insert.ensures.updates })

pub returns-in_err-insert-clause-free : goal.returns-in_err-insert-clause-free
returns-in_err-insert-clause-free g c = λ there.
    absurd (there (ap (λ groups. state_at c.args.key groups) (sym c.self.view_is) ∙ found c.args.key c.self.inside.tree.entries ∙ c.in_err-insert.ensures.absent))
