use Rattle.std.proofs.Common.{◌∙◌}
use Rattle.std.specs.Prelude.{[], ◌∷◌, codes}
use Rattle.std.specs.Fmt.{decimal}
use Rattle.std.proofs.lemmas.Result.{IfOk-weaker}
use Rattle.floop_run.specs.Results.{fault_text}
use Rattle.floop_run.proofs.LineLemmas.{six_pieces}
use Rattle.floop_run.proofs.results.fault_line.Goals as goal

pub returns : goal.returns
returns c =
    IfOk-weaker c.format.result _ _
    (λ text is. is ∙ six_pieces (codes "fault: item ") (decimal c.args.at) (codes ", line ") (decimal c.args.line) (codes ": ") (fault_text c.args.kind) (10 ∷ []))
    (rw c.fault_text-text.ensures at c.format.ensures.ok)
