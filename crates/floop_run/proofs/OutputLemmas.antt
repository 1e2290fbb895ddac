-- What the making of an output gives, from what its steps give.
use Rattle.std.proofs.Common.{◌≡◌, ◌≤◌, ◌+◌, ℕ, List, ap, Option, Result, Ok, Err, inl, subst, ◌∙◌, arith}
use Rattle.std.specs.Prelude.{IfOk, IfSome}
use Rattle.std.proofs.lemmas.Result.{IfOk-weaker}
use Rattle.edge_io.specs.Counts.{Rose, RoseByOneAtMost, DidNotRise}
use Rattle.edge_io.specs.Reading.{Held}
use Rattle.floop_run.specs.declared.answer.Output.{Output}
use Rattle.floop_run.specs.declared.found.Found.{Found}
use Rattle.floop_run.specs.declared.found.Found.TheVariants.{Told, Loop}
use Rattle.floop_run.specs.declared.answer.OutputStop.{OutputStop}
use Rattle.floop_run.specs.declared.answer.OutputStop.TheVariants as stop
use Rattle.floop_run.specs.Answers.{Answer, not_held}
use Rattle.floop_run.specs.Outputs.{Makes, MakesFound, MakesOutput, IsFoundOf, IsOutputOf, MayBeTold, written_in}
use Rattle.program_words.specs.Requests.{Request}
use Rattle.floop_run.specs.Answers.{refused}
use Rattle.floop_run.specs.Written.{Written, IsWrittenOf}
use Rattle.floop_run.specs.TopCall.{IsAnswered, refusal_written}
use Rattle.floop_run.proofs.ReadLemmas.{every, every_of, both_some}

-- the output of a refusal
pub refused_by : (request : Request) (Q : Answer → Type 0) (text : List ℕ) (o : Output) → Q (refused text) → written_in o ≡ refusal_written text → IsOutputOf Q (IsWrittenOf request) o
refused_by request Q text o is same = (refused text, is, record { status = ap (λ (w : Written). w.status) same; lines = ap (λ (w : Written). w.lines) same })

-- something right was made, where no read failed
pub makes : {R : Type 0} (IsRight : Held → R → Type 0) (IsTold : R → Type 0) (IsMissing : Held → Type 0) (most : ℕ) (o : R) (held held2 : Option Held) (reads reads2 faults faults2 : ℕ)
    → IfSome held (λ h. IsRight h o) → IsTold o → held2 ≡ held → reads2 ≤ reads + most → faults2 ≡ faults → Makes IsRight IsTold IsMissing most (Ok o) held held2 reads reads2 faults faults2
makes IsRight IsTold IsMissing most o held held2 reads reads2 faults faults2 is answered same read kept =
    record {
      output = is;
      answered = answered;
      read_fault = every held _ (λ h none fault. absurd (cc));
      held = same;
      failed_once = inl kept;
      kept = λ other. kept;
      reads = read;
    }

-- a file that isn't held
pub misses : {R : Type 0} (IsRight : Held → R → Type 0) (IsTold : R → Type 0) (IsMissing : Held → Type 0) (most : ℕ) (held held2 : Option Held) (reads reads2 faults faults2 : ℕ)
    → IfSome held IsMissing → held2 ≡ held → reads2 ≤ reads + most → faults2 ≡ faults → Makes IsRight IsTold IsMissing most (Err stop.ReadFault) held held2 reads reads2 faults faults2
misses IsRight IsTold IsMissing most held held2 reads reads2 faults faults2 is same read kept =
    record {
      output = every held _ (λ h. tt);
      answered = tt;
      read_fault = every_of held _ _ (λ h missing none fault. missing) is;
      held = same;
      failed_once = inl kept;
      kept = λ _. kept;
      reads = read;
    }

-- a step that goes on with another, which says more and reads no more, after reads that didn't fail
pub goes_on : {R : Type 0} (P Q : Held → R → Type 0) (T : R → Type 0) (A B : Held → Type 0) (m n : ℕ) (r : Result R OutputStop) (held held1 held2 : Option Held) (reads reads1 reads2 faults faults1 faults2 : ℕ)
    → IfSome held (λ h. (o : R) → P h o → Q h o) → IfSome held (λ h. A h → B h) → held1 ≡ held → reads1 + m ≤ reads + n → faults1 ≡ faults → Makes P T A m r held1 held2 reads1 reads2 faults1 faults2
    → Makes Q T B n r held held2 reads reads2 faults faults2
goes_on P Q T A B m n r held held1 held2 reads reads1 reads2 faults faults1 faults2 so lacks same read kept made =
    let more = made.reads in
    record {
      output = both_some held _ _ _ (λ h is given. IfOk-weaker r _ _ (λ o one. is o one) given) so (subst (λ x. IfSome x (λ h. IfOk r (P h))) same made.output);
      answered = made.answered;
      read_fault = both_some held _ _ _ (λ h is missed none fault. is (missed (λ rose. none (subst (λ before. Rose before faults2) kept rose)) fault)) lacks
          (subst (λ x. IfSome x (λ h. DidNotRise faults1 faults2 → r ≡ Err stop.ReadFault → A h)) same made.read_fault);
      held = made.held ∙ same;
      failed_once = subst (λ before. RoseByOneAtMost before faults2) kept made.failed_once;
      kept = λ other. made.kept other ∙ kept;
      reads = omega arith;
    }

-- what is right for one answer is right for another that it implies
pub found_for : (request : Request) (files : Held) (P Q : Answer → Type 0) → ((answer : Answer) → P answer → Q answer) → (found : Found) → IsFoundOf request files P found → IsFoundOf request files Q found
found_for request files P Q so (Told o) is = (is.0, so is.0 is.1, is.2)
found_for request files P Q so (Loop legal table) is = so _ is

-- a step of what a request comes to that goes on with another
pub finds_on : (request : Request) (P Q : Held → Answer → Type 0) (m n : ℕ) (r : Result Found OutputStop) (held held1 held2 : Option Held) (reads reads1 reads2 faults faults1 faults2 : ℕ)
    → IfSome held (λ h. (answer : Answer) → P h answer → Q h answer) → held1 ≡ held → reads1 + m ≤ reads + n → faults1 ≡ faults → MakesFound request P m r held1 held2 reads1 reads2 faults1 faults2
    → MakesFound request Q n r held held2 reads reads2 faults faults2
finds_on request P Q m n r held held1 held2 reads reads1 reads2 faults faults1 faults2 so same read kept made =
    goes_on _ _ _ _ _ m n r held held1 held2 reads reads1 reads2 faults faults1 faults2
    (every_of held _ _ (λ h is found. found_for request h (P h) (Q h) is found) so) (every_of held _ _ (λ h is. is not_held) so) same read kept made

-- a step of an output that goes on with another
pub outputs_on : (P Q : Held → Answer → Type 0) (V W : Answer → Written → Type 0) (m n : ℕ) (r : Result Output OutputStop) (held held1 held2 : Option Held) (reads reads1 reads2 faults faults1 faults2 : ℕ)
    → IfSome held (λ h. (answer : Answer) → P h answer → Q h answer) → ((answer : Answer) (written : Written) → V answer written → W answer written) → held1 ≡ held → reads1 + m ≤ reads + n → faults1 ≡ faults → MakesOutput P V m r held1 held2 reads1 reads2 faults1 faults2
    → MakesOutput Q W n r held held2 reads reads2 faults faults2
outputs_on P Q V W m n r held held1 held2 reads reads1 reads2 faults faults1 faults2 so writes same read kept made =
    goes_on _ _ _ _ _ m n r held held1 held2 reads reads1 reads2 faults faults1 faults2
    (every_of held _ _ (λ h is o one. (one.0, is one.0 one.1, writes one.0 (written_in o) one.2)) so) (every_of held _ _ (λ h is. is not_held) so) same read kept made

-- an output was made of what a request came to, without a further read
pub output_of : (request : Request) (IsOne : Held → Answer → Type 0) (most : ℕ) (found : Found) (o : Output) (held held2 : Option Held) (reads reads2 faults faults2 : ℕ)
    → ((h : Held) → IsFoundOf request h (IsOne h) found → IsOutputOf (IsOne h) (IsWrittenOf request) o) → IsAnswered o.status → MakesFound request IsOne most (Ok found) held held2 reads reads2 faults faults2
    → MakesOutput IsOne (IsWrittenOf request) most (Ok o) held held2 reads reads2 faults faults2
output_of request IsOne most found o held held2 reads reads2 faults faults2 so answered made =
    record {
      output = every_of held _ _ so made.output;
      answered = answered;
      read_fault = every held _ (λ h none fault. absurd (cc));
      held = made.held;
      failed_once = made.failed_once;
      kept = λ other. made.kept (λ e. absurd (cc));
      reads = made.reads;
    }

-- there is no output where there is nothing found, for the same reason
pub no_output : (request : Request) (IsOne : Held → Answer → Type 0) (most : ℕ) (why : OutputStop) (held held2 : Option Held) (reads reads2 faults faults2 : ℕ)
    → MakesFound request IsOne most (Err why) held held2 reads reads2 faults faults2 → MakesOutput IsOne (IsWrittenOf request) most (Err why) held held2 reads reads2 faults faults2
no_output request IsOne most why held held2 reads reads2 faults faults2 made =
    record {
      output = every held _ (λ h. tt);
      answered = tt;
      read_fault = every_of held _ _ (λ h missed none e. missed none (ap Err (cc e))) made.read_fault;
      held = made.held;
      failed_once = made.failed_once;
      kept = λ other. made.kept (λ e. other (ap Err (cc e)));
      reads = made.reads;
    }

-- want of memory behind what was found
pub out_of_memory : (request : Request) (IsOne : Held → Answer → Type 0) (most : ℕ) (found : Found) (held held2 : Option Held) (reads reads2 faults faults2 : ℕ)
    → MakesFound request IsOne most (Ok found) held held2 reads reads2 faults faults2 → MakesOutput IsOne (IsWrittenOf request) most (Err stop.NoMemory) held held2 reads reads2 faults faults2
out_of_memory request IsOne most found held held2 reads reads2 faults faults2 made =
    record {
      output = every held _ (λ h. tt);
      answered = tt;
      read_fault = every held _ (λ h none e. absurd (cc));
      held = made.held;
      failed_once = made.failed_once;
      kept = λ other. made.kept (λ e. absurd (cc));
      reads = made.reads;
    }
