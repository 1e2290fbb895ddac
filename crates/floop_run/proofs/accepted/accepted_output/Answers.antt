use Rattle.std.proofs.Common.{◌≡◌, ℕ, List, ◌++◌, rules, ap, ap₂, ◌∙◌}
use Rattle.std.specs.Prelude.{[], ◌∷◌, codes, length}
use Rattle.std.specs.Fmt.{decimal}
use Rattle.std.proofs.lemmas.Result.{IfOk-weaker}
use Rattle.loop_meaning.specs.Reducers.{reducers_of}
use Rattle.program_rows.proofs.RowLemmas.{row_counted}
use Rattle.floop_run.specs.declared.status.Status.TheVariants as status
use Rattle.floop_run.specs.Written.{Written}
use Rattle.floop_run.specs.Results.{line}
use Rattle.floop_run.proofs.LineLemmas.{five_pieces}
use Rattle.floop_run.proofs.accepted.accepted_output.Goals as goal

-- the line of so many items and reducers
abbrev counted_line : ℕ → ℕ → List ℕ
counted_line items reducers = line (codes "accepted: " ++ decimal items ++ codes " items, " ++ decimal reducers ++ codes " reducers")

pub returns-clause-answer : goal.returns-clause-answer
returns-clause-answer c =
    let program = c.args.job.now.program.now in
    let with_line : List ℕ → Written = λ text. record { status = status.Done; lines = text ∷ [] } in
    let held : c.len-reducers.result ≡ length c.args.job.now.row.towers.items = search rules in
    let reducers : c.len-reducers.result ≡ length (reducers_of program) = held ∙ ap length c.args.job.now.row_is ∙ row_counted program in
    let pieces = five_pieces (codes "accepted: ") (decimal c.count-items.result) (codes " items, ") (decimal c.len-reducers.result) (codes " reducers") (10 ∷ []) in
    IfOk-weaker c.one_line.result _ _ (λ o is. is ∙ ap with_line (c.in_ok-line.ensures.ok ∙ pieces ∙ ap₂ counted_line c.count-items.ensures.items reducers)) c.one_line.ensures
