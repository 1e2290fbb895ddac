use Rattle.std.proofs.Common.{◌∙◌}
use Rattle.std.specs.Prelude.{[], ◌∷◌, codes}
use Rattle.std.specs.Fmt.{decimal}
use Rattle.std.proofs.lemmas.Result.{IfOk-weaker}
use Rattle.floop_run.proofs.LineLemmas.{four_pieces}
use Rattle.floop_run.proofs.results.report_line.Goals as goal

pub returns : goal.returns
returns c =
    IfOk-weaker c.format.result _ _
    (λ text is. is ∙ four_pieces (codes "ran ") (decimal c.args.tally.ran) (codes ", items skipped ") (decimal c.args.tally.items_skipped) (10 ∷ []))
    c.format.ensures.ok
