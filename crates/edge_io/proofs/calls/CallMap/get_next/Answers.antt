use Rattle.std.proofs.Common.{◌+◌, ap, sym, ◌∙◌}
use Rattle.std.specs.Ordering.{nat_cmp}
use Rattle.std.specs.BTreeMap as tree
use Rattle.std.specs.FinMap.{get}
use Rattle.edge_io.proofs.TreeLemmas.{get-entries}
use Rattle.edge_io.proofs.calls.CallMap.get_next.Goals as goal

pub returns : goal.returns
returns c =
    c.copied.ensures
    ∙ c.get.ensures.value
    ∙ ap (λ q. tree.get nat_cmp c.self.inside.numbers q) c.next_call.ensures
    ∙ sym (get-entries c.self.inside.numbers (c.args.before + 1))
    ∙ ap (λ m. get m (c.args.before + 1)) c.self.view_is
