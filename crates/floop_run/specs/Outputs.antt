-- What an output writes, and what the making of an output leaves of the files.
-- Source: this project.
use Rattle.std.specs.Prelude.{◌≡◌, ◌≢◌, ℕ, ◌+◌, ◌≤◌, List, map, Vec, Option, Result, Err, IfOk, IfSome}
use Rattle.edge_io.specs.Counts.{DidNotRise, RoseByOneAtMost}
use Rattle.edge_io.specs.Reading.{Held}
use Rattle.floop_run.specs.declared.answer.Output.{Output}
use Rattle.floop_run.specs.declared.answer.OutputStop.{OutputStop}
use Rattle.floop_run.specs.declared.answer.OutputStop.TheVariants as stop
use Rattle.program_words.specs.Requests.{Request}
use Rattle.loop_items.specs.Refusals.{first_head_refusal}
use Rattle.floop_run.specs.declared.found.Found.{Found}
use Rattle.floop_run.specs.declared.found.Found.TheVariants.{Told, Loop}
use Rattle.floop_run.specs.Answers.{Answer, head_answer, not_held}
use Rattle.floop_run.specs.Written.{Written, IsWrittenOf}
use Rattle.floop_run.specs.TopCall.{IsAnswered}

-- the lines, as lists of bytes
abbrev pub lines_in : {A : Type 0} → List (Vec ℕ A) → List (List ℕ)
lines_in lines = map (λ line. line.items) lines

abbrev pub written_in : Output → Written
written_in output = record { status = output.status; lines = lines_in output.lines.items }

-- an output is what may be written for some answer that is right
abbrev pub IsOutputOf : (Answer → Type 0) → (Answer → Written → Type 0) → Output → Type 0
IsOutputOf IsOne Writes output = (answer : Answer) × IsOne answer × Writes answer (written_in output)

-- Something was made, or there is none. `IsRight` says over what is held what is right, `IsTold` which statuses it may have, `IsMissing`
-- when a file that isn't held is right, and `most` how many reads there may be:
-- - where files tell what they hold, what was made is right;
-- - where files tell and no read failed, a read fault comes only where it is right that a file isn't held;
-- - nothing changed of what files tell that they hold;
-- - the count of faults rose at most by one, and only where there is a read fault;
-- - at most so many reads were made.
pub record Makes {R : Type 0} (IsRight : Held → R → Type 0) (IsTold : R → Type 0) (IsMissing : Held → Type 0) (most : ℕ)
    (result : Result R OutputStop) (told told_now : Option Held) (reads_before reads_now faults_before faults_now : ℕ) :
    Type 0 where
  pub output : IfSome told (λ files. IfOk result (IsRight files))
  pub answered : IfOk result IsTold
  pub read_fault : IfSome told (λ files. DidNotRise faults_before faults_now → result ≡ Err stop.ReadFault → IsMissing files)
  pub held : told_now ≡ told
  pub failed_once : RoseByOneAtMost faults_before faults_now
  pub kept : result ≢ Err stop.ReadFault → faults_now ≡ faults_before
  pub reads : reads_now ≤ reads_before + most

-- An output was made: `IsOne` says which answer over what is held is the right one, `Writes` what may be written for an answer. Its
-- status is one by which an answer's text is given.
abbrev pub MakesOutput : (Held → Answer → Type 0) → (Answer → Written → Type 0) → ℕ → Result Output OutputStop →
    Option Held → Option Held → ℕ → ℕ → ℕ → ℕ → Type 0
MakesOutput IsOne Writes most result told told_now reads_before reads_now faults_before faults_now =
    Makes (λ files. IsOutputOf (IsOne files) Writes) (λ o. IsAnswered o.status) (λ files. IsOne files not_held) most result
    told told_now reads_before reads_now faults_before faults_now

-- What a request comes to is right: an output that may be written for the right answer, or a loop whose answer over its table is the
-- right one.
abbrev pub IsFoundOf : Request → Held → (Answer → Type 0) → Found → Type 0
IsFoundOf request files IsOne (Told output) = IsOutputOf IsOne (IsWrittenOf request) output
IsFoundOf request files IsOne (Loop legal table) = IsOne (head_answer (first_head_refusal legal table) request files legal table)

-- a text that is told has a status by which an answer's text is given
abbrev pub MayBeTold : Found → Type 0
MayBeTold (Told output) = IsAnswered output.status
MayBeTold (Loop legal table) = Unit {0}

-- the same of what a request comes to
abbrev pub MakesFound : Request → (Held → Answer → Type 0) → ℕ → Result Found OutputStop →
    Option Held → Option Held → ℕ → ℕ → ℕ → ℕ → Type 0
MakesFound request IsOne most result told told_now reads_before reads_now faults_before faults_now =
    Makes (λ files. IsFoundOf request files (IsOne files)) MayBeTold (λ files. IsOne files not_held) most result
    told told_now reads_before reads_now faults_before faults_now
