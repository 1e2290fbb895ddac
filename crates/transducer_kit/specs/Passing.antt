-- What a stage lets through for one item, and how the inner function takes it.
-- Source: this project, after Transducers.jl.
use Rattle.std.specs.Prelude.{◌≡◌, ℕ, Bool, true, false, List, [], ◌∷◌, Option, Some, None, Result, Ok, Err}
use Rattle.std.specs.Borrow.{Bor}
use Rattle.chain_stages.specs.declared.step_end.StepEnd.TheVariants.{Going, Ended}
use Rattle.transducer_kit.specs.declared.answers.PassStop.{PassStop}
use Rattle.transducer_kit.specs.Answers.{Answer, answer_of, if_going}

-- items in order, and the answer after the last of them
abbrev pub Passed : Type 0 → Type 0
Passed Y = List Y × Answer

-- the inner function takes the items in order, up to the first that it answers otherwise than by going on, which is then the
-- answer: what comes after it isn't taken; where it goes on after all of them, the answer is the one that came after the last
abbrev pub FeedsAll : {S Y : Type 0} → (S → Y → Answer → S → Type 0) → List Y → Answer → S → Answer → S → Type 0
FeedsAll gives [] after old answer new = (answer ≡ after) × (new ≡ old)
FeedsAll {S} gives (y ∷ ys) after old answer new = (first : Answer) × (mid : S) × gives old y first mid
    × if_going first (FeedsAll gives ys after mid answer new) ((answer ≡ first) × (new ≡ mid))

-- the same of what a stage let through
abbrev pub Feeds : {S Y : Type 0} → (S → Y → Answer → S → Type 0) → Passed Y → S → Answer → S → Type 0
Feeds gives passed old answer new = FeedsAll gives passed.0 passed.1 old answer new

-- the closure answers at the item, and what the stage lets through by that answer is given to the inner function
abbrev pub StageGives : {S X Y Made : Type 0} → (X → Made → Type 0) → (X → Made → Passed Y) →
    (S → Y → Answer → S → Type 0) → S → X → Answer → S → Type 0
StageGives {Made = Made} answers through gives old x answer new =
    (made : Made) × answers x made × Feeds gives (through x made) old answer new

-- the closure may be called on the item, and the item that the stage lets through by its answer may be taken by the inner
-- function; a stage but `Catting` lets at most one through
abbrev pub StageTakes : {S X Y Made : Type 0} → (X → Type 0) → (X → Made → Type 0) → (X → Made → Passed Y) →
    (S → Y → Type 0) → S → X → Type 0
StageTakes {Y = Y} {Made = Made} may answers through takes state x =
    may x × ((made : Made) (y : Y) → answers x made → (through x made).0 ≡ y ∷ [] → takes state y)

-- the item that the closure made; nothing where it stopped
abbrev pub one_made : {X Y : Type 0} → X → Result Y PassStop → Passed Y
one_made x (Ok y) = (y ∷ [], Ok Going)
one_made x (Err stop) = ([], answer_of stop)

-- the item, where it passed the test
abbrev pub one_tested : {Y : Type 0} → Y → Result Bool PassStop → Passed Y
one_tested y (Ok true) = (y ∷ [], Ok Going)
one_tested y (Ok false) = ([], Ok Going)
one_tested y (Err stop) = ([], answer_of stop)

-- the item that the closure made, where it made something
abbrev pub one_kept : {X Y : Type 0} → X → Result (Option Y) PassStop → Passed Y
one_kept x (Ok (Some y)) = (y ∷ [], Ok Going)
one_kept x (Ok None) = ([], Ok Going)
one_kept x (Err stop) = ([], answer_of stop)

-- the item; where it passed the test, the fold ends after it on the line
abbrev pub one_ended : {Y : Type 0} → ℕ → Y → Result Bool PassStop → Passed Y
one_ended line y (Ok true) = (y ∷ [], Ok (Ended line))
one_ended line y (Ok false) = (y ∷ [], Ok Going)
one_ended line y (Err stop) = ([], answer_of stop)

-- what a closure may be called on, and what it may answer, where it is shown a value
abbrev pub MayShow : {X : Type 0} → (Bor X → Type 0) → X → Type 0
MayShow {X} may x = (shown : Bor X) → shown.now ≡ x → may shown

abbrev pub AtShown : {X R : Type 0} → (Bor X → R → Type 0) → X → R → Type 0
AtShown {X} answers x r = (shown : Bor X) × (shown.now ≡ x) × answers shown r
