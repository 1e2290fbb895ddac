use Rattle.std.proofs.Common.{ℕ, List, [], ◌∷◌, ap, ◌∙◌}
use Rattle.floop_run.specs.Written.{Written}
use Rattle.floop_run.specs.Outputs.{lines_in}
use Rattle.floop_run.proofs.answer.one_line.Goals as goal

pub returns : goal.returns
returns c =
    let with_lines : List (List ℕ) → Written = λ lines. record { status = c.args.status; lines = lines } in
    ap with_lines (ap lines_in c.in_ok-lines.ensures.items ∙ ap (λ v. v.items ∷ []) c.into_bytes.ensures.value)
