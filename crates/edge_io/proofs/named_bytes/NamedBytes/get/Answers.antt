use Rattle.std.proofs.Common.{Some, ap, sym, ◌∙◌}
use Rattle.std.specs.FinMap.{get}
use Rattle.edge_io.proofs.KeyedLemmas.{get-texts}
use Rattle.edge_io.proofs.named_bytes.NamedBytes.get.Goals as goal

pub returns-in-Some : goal.returns-in-Some
returns-in-Some c =
    ap Some c.as_slice.ensures
    ∙ c.in-Some.ensures.value
    ∙ sym (get-texts c.args.name.now c.self.inside.tree)
    ∙ ap (λ m. get m c.args.name.now) c.self.view_is

pub returns-in-None : goal.returns-in-None
returns-in-None c =
    c.in-None.ensures.value
    ∙ sym (get-texts c.args.name.now c.self.inside.tree)
    ∙ ap (λ m. get m c.args.name.now) c.self.view_is
