-- What is written of a run, and that the report of its fold is lawful for it.
use Rattle.std.proofs.Common.{◌≡◌, ℕ, List, ◌++◌, length, Option, Some, None, refl, sym, ap, subst, ◌∙◌}
use Rattle.program_words.specs.Requests.{Request}
use Rattle.program_words.specs.Values.{workers_of, wants_report}
use Rattle.loop_data.specs.declared.value.Value.{Value}
use Rattle.loop_grammar.specs.declared.tree.ProgramTree.{ProgramTree}
use Rattle.loop_meaning.specs.declared.runs.Run.{Run}
use Rattle.reducer_tower.specs.declared.named.Named.{Named}
use Rattle.splittable.specs.Places.{item_count}
use Rattle.fold_seq.specs.declared.answers.Reduced.{Reduced}
use Rattle.fold_seq.specs.declared.answers.Reduced.TheVariants.{Going, Stopped, Faulted}
use Rattle.fold_seq.specs.Answers.{stop_place_of}
use Rattle.piece_ledger.specs.declared.tallies.Tally.{Tally}
use Rattle.piece_ledger.specs.Folded.{IsReported}
use Rattle.loop_standing.specs.declared.state.LoopState.{LoopState}
use Rattle.loop_standing.specs.Standing.{Answers, StretchStands}
use Rattle.loop_lower.proofs.EndLemmas.{whole_answers}
use Rattle.loop_items.specs.Heads.{Head}
use Rattle.floop_run.specs.Results.{whole_run}
use Rattle.floop_run.specs.Answers.{folded_over, run_answer}
use Rattle.floop_run.specs.declared.answer.Output.{Output}
use Rattle.floop_run.specs.Written.{Written, IsWrittenOf, ended_written}
use Rattle.floop_run.specs.Outputs.{written_in, lines_in}
use Rattle.floop_run.specs.Folds.{stop_place, least_for, IsLawfulFor, report_lines}

-- ---- what is written for a run

-- the lines of a run, and those of a lawful report where one is wanted, are what may be written for its answer
pub run_written : (request : Request) (program : ProgramTree) (head : Head) (tally : Tally) (first last : Output) →
    written_in first ≡ ended_written program (whole_run program head.items) → last.status ≡ first.status → lines_in last.lines.items ≡ lines_in first.lines.items ++ report_lines (wants_report request) tally →
    IsLawfulFor request (folded_over program head) tally → IsWrittenOf request (run_answer program head) (written_in last)
run_written request program head tally first last is same more lawful =
    record {
      status = same ∙ ap (λ (w : Written). w.status) is;
      lines = (report_lines (wants_report request) tally, (tally, lawful, refl), more ∙ ap (λ (w : Written). w.lines ++ report_lines (wants_report request) tally) is);
    }

-- ---- where a run stops

-- the answer of the whole tells where the run stopped
answered_place : (program : ProgramTree) (row : List Named) (run : Run) (answer : Reduced LoopState) → Answers program row run answer →
    stop_place_of answer ≡ stop_place run.stop
answered_place program row run (Going state) is = sym (ap stop_place is.0)
answered_place program row run (Stopped at line state) is = sym (ap stop_place is.1)
answered_place program row run (Faulted at line kind) is = sym (ap stop_place is)

-- so the report of a fold is lawful for what was folded
pub report_is_lawful : (request : Request) (program : ProgramTree) (row : List Named) (head : Head) (answer : Reduced LoopState) (tally : Tally) →
    item_count head.lens ≡ length head.items → StretchStands program row head.items 1 (item_count head.lens) answer →
    IsReported head.lens (least_for request head.lens) (workers_of request) (stop_place_of answer) tally → IsLawfulFor request (folded_over program head) tally
report_is_lawful request program row head answer tally counted stands =
    subst (λ place. IsReported head.lens (least_for request head.lens) (workers_of request) place tally)
    (answered_place program row (whole_run program head.items) answer (whole_answers program row head.items (item_count head.lens) answer counted stands))
