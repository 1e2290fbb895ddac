-- Lemmas of answers and of feeding elements.
use Rattle.std.proofs.Common.{◌≡◌, ℕ, suc, Bool, true, false, [], ◌∷◌, refl, Result, Ok, Err}
use Rattle.chain_stages.specs.declared.step_end.StepEnd.TheVariants.{Going, Ended, Fault}
use Rattle.transducer_kit.specs.declared.answers.PassStop.{PassStop}
use Rattle.transducer_kit.specs.Answers.{Answer, if_going, is_going}
use Rattle.transducer_kit.specs.Passing.{StageGives, one_ended, one_made}
use Rattle.transducer_kit.specs.Spreading.{FeedsElements}

pub went_on : (answer : Answer) → is_going answer ≡ true → answer ≡ Ok Going
went_on (Ok Going) h = refl
went_on (Ok (Ended line)) h = cc
went_on (Ok (Fault line kind)) h = cc
went_on (Err e) h = cc

-- where the answer isn't to go on, it is the answer
pub stopped : (P Q : Type 0) (answer : Answer) → is_going answer ≡ false → Q → if_going answer P Q
stopped P Q (Ok Going) h q = absurd (cc)
stopped P Q (Ok (Ended line)) h q = q
stopped P Q (Ok (Fault line kind)) h q = q
stopped P Q (Err e) h q = q

-- elements end at an answer that isn't to go on
pub ended_elements : {S Y : Type 0} (makes : ℕ → Result Y PassStop → Type 0) (gives : S → Y → Answer → S → Type 0) (k n : ℕ) (old : S) (answer : Answer) (new : S) →
    is_going answer ≡ false → StageGives makes one_made gives old k answer new → FeedsElements makes gives k (suc n) old answer new
ended_elements makes gives k n old answer new h given = (answer, new, given, stopped _ _ answer h (refl, refl))

pub if_going_map : (answer : Answer) (P P' Q : Type 0) → (P → P') → if_going answer P Q → if_going answer P' Q
if_going_map (Ok Going) P P' Q f h = f h
if_going_map (Ok (Ended line)) P P' Q f h = h
if_going_map (Ok (Fault line kind)) P P' Q f h = h
if_going_map (Err e) P P' Q f h = h

-- whatever its test answers, a stage that ends after an item lets the item through
pub goes_on_with : {Y : Type 0} (line : ℕ) (y : Y) (passes : Bool) → (one_ended line y (Ok passes)).0 ≡ y ∷ []
goes_on_with line y true = refl
goes_on_with line y false = refl
