use Rattle.std.proofs.Common.{ap, ◌∙◌}
use Rattle.std.specs.FinMap.{insert, from_entries}
use Rattle.edge_io.proofs.TreeLemmas.{insert-entries}
use Rattle.edge_io.proofs.calls.CallMap.insert.Goals as goal

pub returns-clause-ok : goal.returns-clause-ok
returns-clause-ok c =
    insert-entries c.from.result c.args.value c.self.inside.numbers c.insert.new.self c.in_ok-insert.ensures.updates
    ∙ ap (λ k. insert (from_entries c.self.inside.numbers.entries) k c.args.value) c.from.ensures
    ∙ ap (λ m. insert m c.args.call c.args.value) c.self.view_is
