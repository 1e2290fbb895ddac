-- What was folded, what a request asks of its fold, and which reports of it are lawful.
-- Source: this project.
use Rattle.std.specs.Prelude.{ℕ, Bool, true, false, List, [], ◌∷◌, ◌++◌, codes, Option, Some, None}
use Rattle.std.specs.Fmt.{decimal}
use Rattle.program_words.specs.Requests.{Request}
use Rattle.program_words.specs.Values.{executor_of, base_of, workers_of}
use Rattle.piece_ledger.specs.declared.tallies.Tally.{Tally}
use Rattle.piece_ledger.specs.Folded.{IsReported}
use Rattle.executor_folds.specs.Leaves.{least_of}
use Rattle.loop_data.specs.declared.value.Value.{Value}
use Rattle.loop_grammar.specs.declared.tree.ProgramTree.{ProgramTree}
use Rattle.loop_meaning.specs.declared.runs.PlainStop.{PlainStop}
use Rattle.loop_meaning.specs.declared.runs.PlainStop.TheVariants as stop
use Rattle.floop_run.specs.Results.{line}

-- what was folded: a program over items, which lie in a shape of these lengths, and how the plain loop over them ends
pub record Folded : Type 0 where
  pub program : ProgramTree
  pub items : List Value
  pub lens : List ℕ
  pub stop : PlainStop

-- the place of the item that ended a run before the others, if one did
abbrev pub stop_place : PlainStop → Option ℕ
stop_place stop.Ran = None
stop_place (stop.Break at in_line) = Some at
stop_place (stop.Fault at in_line kind) = Some at

-- ---- what a request asks of its fold

-- up to which length a request's executor halves no part of a shape
abbrev pub least_for : Request → List ℕ → ℕ
least_for request lens = least_of (executor_of request) (base_of request) lens

-- ---- reports

-- A report of a request's fold is lawful: it is so over the leaves of the shape, the items, and the workers, for the place at
-- which the loop stops. So much of a fold's parts is told, and no more.
abbrev pub IsLawfulFor : Request → Folded → Tally → Type 0
IsLawfulFor request folded tally =
    IsReported folded.lens (least_for request folded.lens) (workers_of request) (stop_place folded.stop) tally

-- the line of a report: how many parts were run, and how many items were skipped
abbrev pub report_line : Tally → List ℕ
report_line tally = line (codes "ran " ++ decimal tally.ran ++ codes ", items skipped " ++ decimal tally.items_skipped)

-- the same, where a report is wanted
abbrev pub report_lines : Bool → Tally → List (List ℕ)
report_lines true tally = report_line tally ∷ []
report_lines false tally = []
