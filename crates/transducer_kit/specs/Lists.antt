-- What a stage makes of a whole list of items, with the answer that comes after the last of them.
-- Source: this project, after Transducers.jl.
use Rattle.std.specs.Prelude.{◌≡◌, ◌≢◌, ◌≤◌, ℕ, zero, suc, ◌+◌, List, [], ◌∷◌, ◌++◌, ⊤, Result, Ok, Err}
use Rattle.chain_stages.specs.declared.step_end.StepEnd.TheVariants.{Going, Ended, Fault}
use Rattle.transducer_kit.specs.declared.answers.PassStop.{PassStop}
use Rattle.transducer_kit.specs.Answers.{Answer}
use Rattle.transducer_kit.specs.Passing.{Passed, one_made}

-- items with the answer after the last of them, and what comes then where that is to go on
abbrev pub then_items : {Y : Type 0} → List Y → Answer → Passed Y → Passed Y
then_items ys (Ok Going) rest = (ys ++ rest.0, rest.1)
then_items ys (Ok (Ended line)) rest = (ys, Ok (Ended line))
then_items ys (Ok (Fault line kind)) rest = (ys, Ok (Fault line kind))
then_items ys (Err e) rest = (ys, Err e)

-- what the stage lets through for each item in order, up to the first item after which it doesn't go on; where it goes on after
-- all of them, the answer that came after them stays
abbrev pub list_output : {X Y : Type 0} → (X → Passed Y) → List X → Answer → Passed Y
list_output stage [] after = ([], after)
list_output stage (x ∷ xs) after = then_items (stage x).0 (stage x).1 (list_output stage xs after)

-- the elements from the k-th on, n of them, up to the first that isn't made
abbrev pub elements : {Y : Type 0} → (ℕ → Passed Y) → ℕ → ℕ → Passed Y
elements element k zero = ([], Ok Going)
elements element k (suc n) = then_items (element k).0 (element k).1 (elements element (k + 1) n)

-- the elements of a value, `element x k` being what the k-th of a value x comes to, k from 1 to the count that stands beside it
abbrev pub spread_of : {A Y : Type 0} → (A → ℕ → Passed Y) → A × ℕ → Passed Y
spread_of element x = elements (element x.0) 1 x.1

-- the items may be taken one after another, each in the state then reached; nothing is said of an item after an answer that
-- isn't to go on, since it isn't taken
abbrev pub TakesAll : {S X : Type 0} → (S → X → Type 0) → (S → X → Answer → S → Type 0) → List X → S → Type 0
TakesAll takes gives [] state = ⊤
TakesAll {S} takes gives (x ∷ xs) state =
    takes state x × ((mid : S) → gives state x (Ok Going) mid → TakesAll takes gives xs mid)

-- ---- closures whose answers are those of a stage

-- by each answer of the closure at this item, what is let through is what the stage lets through
abbrev pub Agrees : {X Y Made : Type 0} → (X → Made → Type 0) → (X → Made → Passed Y) → (X → Passed Y) → X → Type 0
Agrees {Made = Made} answers through stage x = (made : Made) → answers x made → through x made ≡ stage x

-- what is let through where the closure runs out of memory: nothing, and then that
abbrev pub out_of_memory : {Y : Type 0} → Passed Y
out_of_memory = ([], Err (record {}))

-- the same, unless the closure ran out of memory
abbrev pub AgreesButForMemory : {X Y Made : Type 0} → (X → Made → Type 0) → (X → Made → Passed Y) → (X → Passed Y) → X → Type 0
AgreesButForMemory {Made = Made} answers through stage x =
    (made : Made) → answers x made → through x made ≢ out_of_memory → through x made ≡ stage x

-- of the elements of a value: the closure may be called for each, and by each of its answers the element is the wanted one
abbrev pub MayMake : {A : Type 0} → (A → ℕ → Type 0) → A × ℕ → Type 0
MayMake may x = (k : ℕ) → 1 ≤ k → k ≤ x.1 → may x.0 k

abbrev pub ElementsAgree : {A Y : Type 0} → (A → ℕ → Result Y PassStop → Type 0) → (A → ℕ → Passed Y) → A × ℕ → Type 0
ElementsAgree makes element x = (k : ℕ) → 1 ≤ k → k ≤ x.1 → Agrees (makes x.0) one_made (element x.0) k

abbrev pub ElementsAgreeButForMemory : {A Y : Type 0} → (A → ℕ → Result Y PassStop → Type 0) → (A → ℕ → Passed Y) →
    A × ℕ → Type 0
ElementsAgreeButForMemory makes element x =
    (k : ℕ) → 1 ≤ k → k ≤ x.1 → AgreesButForMemory (makes x.0) one_made (element x.0) k
