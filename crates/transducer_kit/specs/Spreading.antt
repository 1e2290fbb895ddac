-- The elements of an item, made one after another and given to the inner function.
-- Source: this project, after Transducers.jl.
use Rattle.std.specs.Prelude.{◌≡◌, ℕ, zero, suc, ◌+◌, ⊤, Result, Ok}
use Rattle.chain_stages.specs.declared.step_end.StepEnd.TheVariants.{Going}
use Rattle.transducer_kit.specs.declared.answers.PassStop.{PassStop}
use Rattle.transducer_kit.specs.Answers.{Answer, if_going}
use Rattle.transducer_kit.specs.Passing.{StageGives, StageTakes, one_made}

-- from the k-th element on, n elements are made and given to the inner function, up to the first answer that isn't to go on;
-- what makes no element ends them
abbrev pub FeedsElements : {S Y : Type 0} → (ℕ → Result Y PassStop → Type 0) → (S → Y → Answer → S → Type 0) →
    ℕ → ℕ → S → Answer → S → Type 0
FeedsElements makes gives k zero old answer new = (answer ≡ Ok Going) × (new ≡ old)
FeedsElements {S} makes gives k (suc n) old answer new =
    (first : Answer) × (mid : S) × StageGives makes one_made gives old k first mid
    × if_going first (FeedsElements makes gives (k + 1) n mid answer new) ((answer ≡ first) × (new ≡ mid))

-- from the k-th element on, n elements may be made, and the inner function may take each in the state then reached. The next
-- may be made only once the inner function took the one before and went on: so no two are held at once.
abbrev pub TakesElements : {S Y : Type 0} → (ℕ → Type 0) → (ℕ → Result Y PassStop → Type 0) → (S → Y → Type 0) →
    (S → Y → Answer → S → Type 0) → ℕ → ℕ → S → Type 0
TakesElements may makes takes gives k zero state = ⊤
TakesElements {S} may makes takes gives k (suc n) state =
    StageTakes may makes one_made takes state k
    × ((mid : S) → StageGives makes one_made gives state k (Ok Going) mid → TakesElements may makes takes gives (k + 1) n mid)
