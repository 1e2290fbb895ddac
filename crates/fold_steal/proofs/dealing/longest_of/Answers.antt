use Rattle.std.proofs.Common.{rules, ap, ◌≡◌, ◌∙◌, max}
use Rattle.fold_steal.proofs.RoundSteps.{longest_more}
use Rattle.fold_steal.proofs.dealing.longest_of.Goals as goal

pub loop-part-preserved : goal.loop-part-preserved
loop-part-preserved c =
    let larger : c.max-len.result ≡ max c.loop-part.len c.len.result = search rules in
    larger ∙ ap (λ n. max c.loop-part.len n) c.len.ensures.value
    ∙ longest_more c.args.parts.now c.loop-part.part-index c.part-item.result c.loop-part.len (search rules) c.part-item.is c.loop-part.invariant
