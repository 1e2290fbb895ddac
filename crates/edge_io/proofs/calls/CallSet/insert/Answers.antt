use Rattle.std.proofs.Common.{ap, ◌∙◌}
use Rattle.std.specs.FinSet.{insert, from_list}
use Rattle.edge_io.proofs.TreeLemmas.{insert-keys}
use Rattle.edge_io.proofs.calls.CallSet.insert.Goals as goal

pub returns-clause-ok : goal.returns-clause-ok
returns-clause-ok c =
    insert-keys c.from.result c.self.inside.numbers c.insert.new.self c.in_ok-insert.ensures.updates
    ∙ ap (λ k. insert (from_list c.self.inside.numbers.keys) k) c.from.ensures
    ∙ ap (λ s. insert s c.args.number) c.self.view_is
