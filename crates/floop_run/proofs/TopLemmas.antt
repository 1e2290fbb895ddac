-- The top call's clauses, from those of what it calls.
use Rattle.std.proofs.Common.{◌≡◌, ◌≢◌, ◌∷◌, [], ◌++◌, ℕ, List, length, Option, Some, None, refl, sym, ap, subst, append-nil, arith}
use Rattle.std.specs.Prelude.{IfSome, IfErr, Result, Ok, Err}
use Rattle.edge_io.specs.Reading.{Held}
use Rattle.edge_io.specs.Counts.{counted, counted_times, DidNotRise, RoseByOne}
use Rattle.floop_run.specs.declared.answer.Output.{Output}
use Rattle.floop_run.specs.declared.answer.OutputStop.{OutputStop}
use Rattle.floop_run.specs.declared.answer.OutputStop.TheVariants as stop
use Rattle.edge_io.specs.Writing.{Puts}
use Rattle.floop_run.specs.Requests.{request_in}
use Rattle.floop_run.specs.declared.status.Status.{Status}
use Rattle.floop_run.specs.declared.status.Status.TheVariants as status
use Rattle.floop_run.specs.Outputs.{IsOutputOf, written_in, lines_in}
use Rattle.program_words.specs.declared.command.Call.{Call}
use Rattle.program_words.specs.Requests.{Request}
use Rattle.floop_run.specs.Answers.{IsAnswer, not_held}
use Rattle.floop_run.specs.Results.{line}
use Rattle.floop_run.specs.Written.{Written, IsWritten, IsWrittenFor}
use Rattle.floop_run.specs.TopCall.{Gives, PutsEach, PutsPrefixOf, LastPutFailed, IsAnswered, refusal_written, GivesAnswer}
use Rattle.floop_run.proofs.AnswerLemmas.{only_not_held, status_written}

-- an output is never given for a file that isn't held
pub only_output : (held : Option Held) (call : Call) (words : List (List ℕ)) (output : Output) (given : Status) (A : Type 0) → IfSome held (λ h. IsOutputOf (IsAnswer call words h) (IsWritten call words) output) → IsAnswered output.status →
    IfSome held (λ h. (A → ⊥) → IsAnswer call words h not_held → given ≢ status.NoMemory → given ≡ status.ReadFault)
only_output None call words output given A is answered = tt
only_output (Some h) call words output given A is answered =
    λ a missing ne. absurd (only_not_held call words h is.0 missing is.1 (subst IsAnswered (status_written call words is.0 (written_in output) is.2) answered))

-- where the answer is that a file isn't held, nothing is written for it
nothing_for : (r : Result Request (List ℕ)) → IsWrittenFor r not_held (record { status = status.ReadFault; lines = [] })
nothing_for (Err text) = (refl, refl)
nothing_for (Ok request) = record { status = refl; lines = refl }

puts_nothing : (before : Option (List ℕ)) → Puts before before []
puts_nothing None = refl
puts_nothing (Some written) = ap Some (sym (append-nil written))

-- what a read fault gives where the answer is that a file isn't held
pub missing_given : (told : Option Held) (call : Call) (words : List (List ℕ)) (A B : Type 0) (r : Result Output OutputStop) (before : Option (List ℕ)) → r ≡ Err stop.ReadFault →
    IfSome told (λ h. A → r ≡ Err stop.ReadFault → IsAnswer call words h not_held) →
    IfSome told (λ h. A → B → status.ReadFault ≢ status.NoMemory → GivesAnswer call words h status.ReadFault before before)
missing_given None call words A B r before e is = tt
missing_given (Some h) call words A B r before e is =
    λ a b other. (record { status = status.ReadFault; lines = [] }, (not_held, is a e, nothing_for (request_in call words)), record { status = refl; text = puts_nothing before })

-- an output that was given is that of the answer, where no put failed
pub output_given : (told : Option Held) (call : Call) (words : List (List ℕ)) (A : Type 0) (output : Output) (given : Status) (before now : Option (List ℕ)) (faults faults2 : ℕ)
    → IfSome told (λ h. IsOutputOf (IsAnswer call words h) (IsWritten call words) output) → (IsAnswered given → Gives (written_in output) given before now)
    → (given ≢ status.WriteFault → given ≢ status.NoMemory → IsAnswered given) → (given ≡ status.WriteFault → RoseByOne faults faults2)
    → IfSome told (λ h. A → DidNotRise faults faults2 → given ≢ status.NoMemory → GivesAnswer call words h given before now)
output_given None call words A output given before now faults faults2 is gives cases fault = tt
output_given (Some h) call words A output given before now faults faults2 is gives cases fault =
    λ a none other. (written_in output, is, gives (cases (λ e. let rose = fault e in none (omega arith)) other))

-- a failed put of the text of refused words leaves a prefix of it
pub prefix_of_refused : (request : Result Request (List ℕ)) (before now : Option (List ℕ)) (output : Output) (given : Status) → IfErr request (λ text. written_in output ≡ refusal_written text) →
    (given ≡ status.WriteFault → PutsPrefixOf (written_in output) before now) → IfErr request (λ text. given ≡ status.WriteFault → PutsPrefixOf (refusal_written text) before now)
prefix_of_refused (Ok asked) before now output given is puts = tt
prefix_of_refused (Err text) before now output given is puts = λ e. subst (λ a. PutsPrefixOf a before now) is (puts e)

-- an output whose text is that of refused words gives their refusal, where no put failed
pub refused_given : (request : Result Request (List ℕ)) (output : Output) (given : Status) (before now : Option (List ℕ)) (faults faults2 : ℕ) → IfErr request (λ text. written_in output ≡ refusal_written text)
    → (IsAnswered given → Gives (written_in output) given before now) → (given ≢ status.WriteFault → given ≢ status.NoMemory → IsAnswered given) → (given ≡ status.WriteFault → RoseByOne faults faults2)
    → IfErr request (λ text. DidNotRise faults faults2 → given ≢ status.NoMemory → Gives (refusal_written text) given before now)
refused_given (Ok asked) output given before now faults faults2 is gives cases fault = tt
refused_given (Err text) output given before now faults faults2 is gives cases fault =
    λ none other. subst (λ a. Gives a given before now) is (gives (cases (λ e. let rose = fault e in none (omega arith)) other))

-- of one line the last put that failed is the only one
one_failed : (line : List ℕ) (before now : Option (List ℕ)) (puts puts2 : ℕ) → LastPutFailed (line ∷ []) before now puts puts2 → puts2 ≡ counted puts
one_failed line before now puts puts2 last = by last.whole last.split last.count
  where
    by : (whole : List (List ℕ)) → line ∷ [] ≡ whole ++ last.failed ∷ last.after → puts2 ≡ counted (counted_times (length whole) puts) → puts2 ≡ counted puts
    by [] e count = count
    by (one ∷ []) e count = absurd (cc)
    by (one ∷ other ∷ rest) e count = absurd (cc)

-- what is one line is given by one put
by_status : (given : Status) (line : List ℕ) (before now : Option (List ℕ)) (puts puts2 : ℕ) → (IsAnswered given → PutsEach (line ∷ []) puts puts2) → (given ≡ status.WriteFault → LastPutFailed (line ∷ []) before now puts puts2)
    → (given ≢ status.WriteFault → given ≢ status.NoMemory → IsAnswered given) → given ≢ status.NoMemory → puts2 ≡ counted puts
by_status status.Done line before now puts puts2 each last cases other = each tt
by_status status.LoopFault line before now puts puts2 each last cases other = each tt
by_status status.Refused line before now puts puts2 each last cases other = each tt
by_status status.ReadFault line before now puts puts2 each last cases other = absurd (cases (λ e. absurd (cc)) other)
by_status status.WriteFault line before now puts puts2 each last cases other = one_failed line before now puts puts2 (last refl)
by_status status.NoMemory line before now puts puts2 each last cases other = absurd (other refl)

-- the refusal of words is one put
pub one_put : (request : Result Request (List ℕ)) (output : Output) (given : Status) (before now : Option (List ℕ)) (puts puts2 : ℕ) → IfErr request (λ text. written_in output ≡ refusal_written text)
    → (IsAnswered given → PutsEach (lines_in output.lines.items) puts puts2) → (given ≡ status.WriteFault → LastPutFailed (lines_in output.lines.items) before now puts puts2)
    → (given ≢ status.WriteFault → given ≢ status.NoMemory → IsAnswered given) → IfErr request (λ text. given ≢ status.NoMemory → puts2 ≡ counted puts)
one_put (Ok asked) output given before now puts puts2 is each last cases = tt
one_put (Err text) output given before now puts puts2 is each last cases =
    let lines : lines_in output.lines.items ≡ line text ∷ [] = ap (λ (written : Written). written.lines) is in
    by_status given (line text) before now puts puts2
    (λ answered. subst (λ ls. PutsEach ls puts puts2) lines (each answered))
    (λ e. subst (λ ls. LastPutFailed ls before now puts puts2) lines (last e)) cases
