-- Laws of the wrappers over lists of items: each is its rule on whole lists, for any closure and any inner function.
-- Source: this project, after Transducers.jl.
use Rattle.std.specs.Prelude.{◌≡◌, ◌≢◌, ◌≤◌, ◌+◌, ◌^◌, List, ◌++◌, length, Err}
use Rattle.std.specs.List.{AllByRecursion}
use Rattle.transducer_kit.specs.Answers.{Answer}
use Rattle.transducer_kit.specs.Lists.{TakesAll, list_output}
use Rattle.transducer_kit.specs.Passing.{Feeds, FeedsAll, Passed}

-- a relation of the state before items, the items, the answer and the state after them
abbrev pub Gives : Type 0 → Type 0 → Type 1
Gives S X = S → X → Answer → S → Type 0

-- Where the closure's answers at the items are those of the stage, folding the items through the wrapper is folding into the
-- inner function what the stage makes of the whole list.
abbrev pub Follows : {S X Y : Type 0} → (X → Type 0) → (X → Passed Y) → Gives S X → Gives S Y → Type 0
Follows {S} {X} agrees stage outer inner = (xs : List X) (after answer : Answer) (old new : S) →
    AllByRecursion agrees xs → FeedsAll outer xs after old answer new →
    Feeds inner (list_output stage xs after) old answer new

-- The same unless memory ran out.
abbrev pub FollowsOrFails : {S X Y : Type 0} → (X → Type 0) → (X → Passed Y) → Gives S X → Gives S Y → Type 0
FollowsOrFails {S} {X} agrees stage outer inner = (xs : List X) (after answer : Answer) (old new : S) →
    AllByRecursion agrees xs → FeedsAll outer xs after old answer new → answer ≢ Err (record {}) →
    Feeds inner (list_output stage xs after) old answer new

-- Where the closure may be called on the items, the wrapper may take them where the inner function may take what the stage
-- makes of the whole list.
abbrev pub TakenByRule : {S X Y : Type 0} → (may agrees : X → Type 0) → (X → Passed Y) → (S → X → Type 0) → Gives S X →
    (S → Y → Type 0) → Gives S Y → Type 0
TakenByRule {S} {X} may agrees stage outer_takes outer takes inner = (xs : List X) (after : Answer) (state : S) →
    AllByRecursion may xs → AllByRecursion agrees xs → TakesAll takes inner (list_output stage xs after).0 state →
    TakesAll outer_takes outer xs state

-- ---- a reducer at the end of a pipeline

-- unless memory ran out, all the items were taken, and the state stands for what it stood for followed by them
abbrev pub StandsOrFails : {S I : Type 0} → (S → List I → Type 0) → Gives S I → Type 0
StandsOrFails {S} {I} stands gives = (before items : List I) (after answer : Answer) (old new : S) →
    stands old before → FeedsAll gives items after old answer new → answer ≢ Err (record {}) →
    (answer ≡ after) × stands new (before ++ items)

-- the same of a reducer that takes no memory, always
abbrev pub StandsIfFree : {S I : Type 0} → Type 0 → (S → List I → Type 0) → Gives S I → Type 0
StandsIfFree {S} {I} free stands gives = (before items : List I) (after answer : Answer) (old new : S) →
    free → stands old before → FeedsAll gives items after old answer new →
    (answer ≡ after) × stands new (before ++ items)

-- items that the reducer accepts may be taken where there are at most 2^62 together with those before
abbrev pub TakesAccepted : {S I : Type 0} → (S → List I → Type 0) → (I → Type 0) → (S → I → Type 0) → Gives S I → Type 0
TakesAccepted {S} {I} stands accepts takes gives = (before items : List I) (state : S) →
    stands state before → length before + length items ≤ 2 ^ 62 → AllByRecursion accepts items →
    TakesAll takes gives items state
