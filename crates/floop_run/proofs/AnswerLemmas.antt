-- Which answers there are: where the answer is that of a file that isn't held, no other is given.
use Rattle.std.proofs.Common.{◌≡◌, ℕ, List, Result, Ok, Err, subst, ap}
use Rattle.edge_io.specs.Reading.{Held}
use Rattle.program_words.specs.declared.command.Call.{Call}
use Rattle.program_words.specs.Requests.{Request}
use Rattle.floop_run.specs.Requests.{request_in}
use Rattle.floop_run.specs.Answers.{Answer, not_held, IsAnswer}
use Rattle.floop_run.specs.Written.{Written, IsWrittenFor, IsWritten}
use Rattle.floop_run.specs.TopCall.{IsAnswered}
use Rattle.floop_run.proofs.AnswerLaws.{one_answer}

-- what is written has the status of its answer
status_for : (r : Result Request (List ℕ)) (answer : Answer) (written : Written) → IsWrittenFor r answer written → written.status ≡ answer.status
status_for (Err text) answer written is = is.0
status_for (Ok request) answer written is = is.status

pub status_written : (call : Call) (words : List (List ℕ)) (answer : Answer) (written : Written) → IsWritten call words answer written → written.status ≡ answer.status
status_written call words answer written is = status_for (request_in call words) answer written is

not_answered : (answer : Answer) → answer ≡ not_held → IsAnswered answer.status → ⊥
not_answered answer e h = subst (λ (a : Answer). IsAnswered a.status) e h

pub only_not_held : (call : Call) (words : List (List ℕ)) (held : Held) (answer : Answer) → IsAnswer call words held not_held → IsAnswer call words held answer → IsAnswered answer.status → ⊥
only_not_held call words held answer a b h = not_answered answer (one_answer call words held answer not_held b a) h
