use Rattle.std.proofs.Common.{◌≡◌, ap, ◌∙◌, rules, string_bytes}
use Rattle.std.specs.FinMap.{insert}
use Rattle.edge_io.proofs.KeyedLemmas.{insert-texts, texts}
use Rattle.edge_io.proofs.named_bytes.NamedBytes.insert.Goals as goal

pub returns-clause-ok : goal.returns-clause-ok
returns-clause-ok c =
    let key : string_bytes c.in_ok-key.key ≡ c.args.name.now = search rules in
    insert-texts c.in_ok-key.key c.args.bytes.items c.self.inside.tree c.insert.new.self c.in_ok-insert.ensures.updates
    ∙ ap (λ b. insert (texts c.self.inside.tree) b c.args.bytes.items) key
    ∙ ap (λ m. insert m c.args.name.now c.args.bytes.items) c.self.view_is
