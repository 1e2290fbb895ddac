use Rattle.std.proofs.Common.{◌≡◌, ◌++◌, ℕ, List, append_assoc, refl, ◌∙◌}
use Rattle.std.specs.Prelude.{codes}
use Rattle.std.specs.Fmt.{decimal}
use Rattle.std.proofs.lemmas.Result.{IfOk-weaker}
use Rattle.chain_stages.specs.ChainText.{stage_text}
use Rattle.loop_chain.proofs.explain.stage_line.Goals as goal

-- five texts in a row, as the pieces are written
five : (a b m d e : List ℕ) → a ++ (b ++ (m ++ (d ++ e))) ≡ a ++ b ++ m ++ d ++ e
five a b m d e = rw (append_assoc (a ++ b ++ m) d e, append_assoc (a ++ b) m (d ++ e), append_assoc a b (m ++ (d ++ e))) refl

pub returns : goal.returns
returns c =
    IfOk-weaker c.format.result _ _
    (λ text is. is ∙ five (codes "stage ") (decimal c.args.number) (codes ": ") (stage_text c.args.stage.now) (codes "\n"))
    c.format.ensures.ok
