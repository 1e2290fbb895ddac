-- What a call writes for its words and an answer. It is a relation, since a report isn't determined.
-- Source: this project.
use Rattle.std.specs.Prelude.{◌≡◌, ℕ, List, ◌++◌, Option, Some, None, Result, Ok, Err, flat_map}
use Rattle.edge_io.specs.Reading.{Held}
use Rattle.program_words.specs.declared.command.Call.{Call}
use Rattle.program_words.specs.Requests.{Request}
use Rattle.program_words.specs.Values.{wants_report}
use Rattle.loop_grammar.specs.declared.tree.ProgramTree.{ProgramTree}
use Rattle.loop_meaning.specs.declared.runs.Run.{Run}
use Rattle.piece_ledger.specs.declared.tallies.Tally.{Tally}
use Rattle.floop_run.specs.declared.status.Status.{Status}
use Rattle.floop_run.specs.Requests.{request_in}
use Rattle.floop_run.specs.Folds.{Folded, IsLawfulFor, report_lines}
use Rattle.floop_run.specs.Answers.{Answer, IsAnswer, ended_status, ended_lines}

-- a status, and the lines that go with it, each with its LF
pub record Written : Type 0 where
  pub status : Status
  pub lines : List (List ℕ)

-- what is written of a run, but for what stands behind its lines
abbrev pub ended_written : ProgramTree → Run → Written
ended_written program run = record { status = ended_status run.stop; lines = ended_lines program run run.stop }

-- the lines behind those of the answer: that of some report which is lawful for what the request folded, where it wants one
abbrev pub AreBehind : Request → Folded → List (List ℕ) → Type 0
AreBehind request folded lines =
    (tally : Tally) × IsLawfulFor request folded tally × (lines ≡ report_lines (wants_report request) tally)

-- The lines that are written for a request's answer: those of the answer, and where a loop was run what stands behind them.
abbrev pub AreLinesOf : Request → List (List ℕ) → Option Folded → List (List ℕ) → Type 0
AreLinesOf request text None lines = lines ≡ text
AreLinesOf request text (Some folded) lines =
    (behind : List (List ℕ)) × AreBehind request folded behind × (lines ≡ text ++ behind)

-- what is written for an answer to a request: its status, and such lines
pub record IsWrittenOf (request : Request) (answer : Answer) (written : Written) : Type 0 where
  pub status : written.status ≡ answer.status
  pub lines : AreLinesOf request answer.lines answer.folded written.lines

-- the same to what words are: where they are no request it is the text of their refusal
abbrev pub IsWrittenFor : Result Request (List ℕ) → Answer → Written → Type 0
IsWrittenFor (Err text) answer written = (written.status ≡ answer.status) × (written.lines ≡ answer.lines)
IsWrittenFor (Ok request) answer written = IsWrittenOf request answer written

-- What a call with these words writes for an answer.
abbrev pub IsWritten : Call → List (List ℕ) → Answer → Written → Type 0
IsWritten call words answer written = IsWrittenFor (request_in call words) answer written

-- what some call with these words over these files writes for its answer
abbrev pub MayWrite : Call → List (List ℕ) → Held → Written → Type 0
MayWrite call words held written = (answer : Answer) × IsAnswer call words held answer × IsWritten call words answer written

-- the bytes of lines, one line after another
abbrev pub joined : List (List ℕ) → List ℕ
joined lines = flat_map (λ line. line) lines

-- the whole text of what is written
abbrev pub whole_text : Written → List ℕ
whole_text written = joined written.lines
