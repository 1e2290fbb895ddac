-- The answer of a call: its status, its lines, and what was folded, from the words and what files hold. No thread, part or
-- schedule is in it, nor the way in which a request asks for its fold. Source: this project.
use Rattle.std.specs.Prelude.{◌≡◌, ℕ, ◌<◌, ◌≤◌, List, [], ◌∷◌, ◌++◌, length, codes, Option, Some, None, Result, Ok, Err}
use Rattle.std.specs.FinMap.{get}
use Rattle.std.specs.Fmt.{decimal}
use Rattle.edge_io.specs.Reading.{Held}
use Rattle.program_words.specs.declared.command.Call.{Call}
use Rattle.program_words.specs.declared.command.Command.{Command}
use Rattle.program_words.specs.declared.command.Command.TheVariants as command
use Rattle.program_words.specs.Requests.{Request}
use Rattle.loop_grammar.specs.declared.tree.ProgramTree.{ProgramTree}
use Rattle.loop_grammar.specs.declared.refusal.SyntaxRefusal.{SyntaxRefusal}
use Rattle.loop_grammar.specs.RefusalTexts.{syntax_text}
use Rattle.loop_grammar.specs.Texts.{SpellsProgram, FirstRefusal}
use Rattle.legality_rules.specs.declared.refusal.Offence.{Offence}
use Rattle.legality_rules.specs.Offences.{first_offence}
use Rattle.legality_rules.specs.RefusalTexts.{offence_text}
use Rattle.loop_syntax.specs.Programs.{loop_file_limit}
use Rattle.column_input.specs.Table.{Contents}
use Rattle.data_files.specs.declared.stop.DataStop.{DataStop}
use Rattle.data_files.specs.declared.stop.DataStop.TheVariants as reading
use Rattle.data_files.specs.Tables.{data_table}
use Rattle.data_files.specs.Texts.{data_text}
use Rattle.loop_items.specs.declared.refusal.HeadRefusal.{HeadRefusal}
use Rattle.loop_items.specs.Heads.{Head, head_of}
use Rattle.loop_chain.specs.Explain.{explain_lines}
use Rattle.loop_items.specs.Refusals.{first_head_refusal}
use Rattle.loop_items.specs.RefusalTexts.{refusal_text}
use Rattle.loop_meaning.specs.declared.runs.Run.{Run}
use Rattle.loop_meaning.specs.declared.runs.PlainStop.{PlainStop}
use Rattle.loop_meaning.specs.declared.runs.PlainStop.TheVariants as stop
use Rattle.floop_run.specs.declared.status.Status.{Status}
use Rattle.floop_run.specs.declared.status.Status.TheVariants as status
use Rattle.floop_run.specs.Requests.{request_in, loop_file, data_names}
use Rattle.floop_run.specs.Results.{line, results_lines, fault_line, whole_run, accepted_line}
use Rattle.floop_run.specs.Folds.{Folded}

-- the lines, each with its LF, where a result may hold further LFs; and what was folded, where a loop was run
pub record Answer : Type 0 where
  pub status : Status
  pub lines : List (List ℕ)
  pub folded : Option Folded

-- an answer that runs no loop
abbrev pub plain : Status → List (List ℕ) → Answer
plain given lines = record { status = given; lines = lines; folded = None }

-- a refusal is one line
abbrev pub refused : List ℕ → Answer
refused text = plain status.Refused (line text ∷ [])

-- the answer where a file that the call reaches isn't held: nothing is written
abbrev pub not_held : Answer
not_held = plain status.ReadFault []

-- what was done without running a loop: its lines
abbrev pub done : List (List ℕ) → Answer
done lines = plain status.Done lines

-- what a loop file is called that is too long
abbrev pub too_long_text : List ℕ
too_long_text = codes "loop file: over " ++ decimal loop_file_limit ++ codes " bytes"

-- ---- what runs

-- the status of a run that ended so
abbrev pub ended_status : PlainStop → Status
ended_status (stop.Fault at in_line kind) = status.LoopFault
ended_status _ = status.Done

-- and its lines: the results, or the fault
abbrev pub ended_lines : ProgramTree → Run → PlainStop → List (List ℕ)
ended_lines program run (stop.Fault at in_line kind) = fault_line at in_line kind ∷ []
ended_lines program run _ = results_lines program run

-- what was folded: the program over the items of its head
abbrev pub folded_over : ProgramTree → Head → Folded
folded_over program head = record {
  program = program;
  items = head.items;
  lens = head.lens;
  stop = (whole_run program head.items).stop;
}

-- the answer of the run over a head
abbrev pub run_answer : ProgramTree → Head → Answer
run_answer program head =
    let run = whole_run program head.items in
    record {
      status = ended_status run.stop;
      lines = ended_lines program run run.stop;
      folded = Some (folded_over program head);
    }

-- What the command writes of a legal program over its head. A command that reads a further file finds it in what is held.
abbrev pub command_answer : Command → Request → Held → ProgramTree → Head → Answer
command_answer command.Check request held program head = done (accepted_line program head.items ∷ [])
command_answer command.Explain request held program head = done (explain_lines program (length head.items))
command_answer command.Run request held program head = run_answer program head

-- ---- refusals, in their order

-- the head's first refusal, of its collections from left to right and then of its product; else what the command writes
abbrev pub head_answer : Option HeadRefusal → Request → Held → ProgramTree → Contents → Answer
head_answer (Some why) request held program table = refused (refusal_text why)
head_answer None request held program table = command_answer request.command request held program (head_of program table)

-- Why there is no table; else what follows from it. A read that failed and want of memory are no part of an answer.
abbrev pub table_answer : Result Contents DataStop → Request → Held → ProgramTree → Answer
table_answer (Ok table) request held program = head_answer (first_head_refusal program table) request held program table
table_answer (Err (reading.Refused why)) request held program = refused (data_text why)
table_answer (Err _) request held program = not_held

-- the first offence; else what follows from the data files
abbrev pub legal_answer : Option Offence → Request → Held → ProgramTree → Answer
legal_answer (Some offence) request held program = refused (offence_text offence)
legal_answer None request held program = table_answer (data_table (data_names request) held) request held program

-- the answer of a request for the program that its loop file spells
abbrev pub program_answer : Request → Held → ProgramTree → Answer
program_answer request held program = legal_answer (first_offence program) request held program

-- The answer for the text of a loop file, within the limit: its first refusal, or what its program gives.
pub data IsTextAnswer : Request → Held → List ℕ → Answer → Type 0 where
  refused_text : {request : Request} {held : Held} {text : List ℕ} {r : SyntaxRefusal} →
      FirstRefusal text r → IsTextAnswer request held text (refused (syntax_text r))
  read : {request : Request} {held : Held} {text : List ℕ} {program : ProgramTree} →
      SpellsProgram text program → IsTextAnswer request held text (program_answer request held program)

-- the answer for the bytes of the loop file, if it is held
pub data IsFileAnswer : Request → Held → Option (List ℕ) → Answer → Type 0 where
  missing : {request : Request} {held : Held} → IsFileAnswer request held None not_held
  too_long : {request : Request} {held : Held} {bytes : List ℕ} →
      loop_file_limit < length bytes → IsFileAnswer request held (Some bytes) (refused too_long_text)
  within : {request : Request} {held : Held} {bytes : List ℕ} {answer : Answer} →
      length bytes ≤ loop_file_limit → IsTextAnswer request held bytes answer → IsFileAnswer request held (Some bytes) answer

-- the answer of a request, by its loop file
abbrev pub IsAskedAnswer : Request → Held → Answer → Type 0
IsAskedAnswer request held answer = IsFileAnswer request held (get held (loop_file request)) answer

-- the answer for what the words are: the text of their first refusal, or what their request asks for
pub data IsRequestAnswer : Result Request (List ℕ) → Held → Answer → Type 0 where
  no_request : {text : List ℕ} {held : Held} → IsRequestAnswer (Err text) held (refused text)
  asked : {request : Request} {held : Held} {answer : Answer} →
      IsAskedAnswer request held answer → IsRequestAnswer (Ok request) held answer

-- The answer of a call with these words over these files.
abbrev pub IsAnswer : Call → List (List ℕ) → Held → Answer → Type 0
IsAnswer call words held answer = IsRequestAnswer (request_in call words) held answer

-- words over files have one answer at most
abbrev pub OneAnswer : Type 0
OneAnswer = (call : Call) (words : List (List ℕ)) (held : Held) (answer also : Answer) →
    IsAnswer call words held answer → IsAnswer call words held also → answer ≡ also

-- no words over files are without an answer
abbrev pub SomeAnswer : Type 0
SomeAnswer = (call : Call) (words : List (List ℕ)) (held : Held) →
    ((answer : Answer) → IsAnswer call words held answer → ⊥) → ⊥
