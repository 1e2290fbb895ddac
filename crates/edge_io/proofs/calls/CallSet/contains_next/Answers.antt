use Rattle.std.proofs.Common.{◌+◌, ap, sym, ◌∙◌}
use Rattle.std.specs.Ordering.{nat_cmp}
use Rattle.std.specs.BTreeSet as tree
use Rattle.std.specs.FinSet.{contains}
use Rattle.edge_io.proofs.TreeLemmas.{contains-keys}
use Rattle.edge_io.proofs.calls.CallSet.contains_next.Goals as goal

pub returns : goal.returns
returns c =
    c.contains.ensures
    ∙ ap (λ q. tree.contains nat_cmp c.self.inside.numbers q) c.next_call.ensures
    ∙ sym (contains-keys c.self.inside.numbers (c.args.before + 1))
    ∙ ap (λ s. contains s (c.args.before + 1)) c.self.view_is
