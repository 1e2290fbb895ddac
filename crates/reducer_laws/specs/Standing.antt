-- What a reducer's states stand for: the conditions and the answers of its calls, said of a relation between states and lists.
-- Source: this project.
use Rattle.std.specs.Prelude.{◌^◌, ◌<◌, ◌≤◌, List, [], ◌∷◌, ◌++◌, length}

-- the state may take one more input: it stands for some list of fewer than 2^62
abbrev pub MayTake : {S I : Type 0} → (S → List I → Type 0) → S → Type 0
MayTake {S} {I} stands state = (xs : List I) × stands state xs × (length xs < 2 ^ 62)

-- the states may be merged: they stand for some lists of at most 2^62 inputs together
abbrev pub MayMerge : {S I : Type 0} → (S → List I → Type 0) → S → S → Type 0
MayMerge {S} {I} stands left right =
    (xs : List I) × (ys : List I) × stands left xs × stands right ys × (length (xs ++ ys) ≤ 2 ^ 62)

-- whichever list the state stood for, it now stands for that list followed by the input
abbrev pub TakesNext : {S I : Type 0} → (S → List I → Type 0) → S → I → S → Type 0
TakesNext {S} {I} stands before input after = (xs : List I) → stands before xs → stands after (xs ++ input ∷ [])

-- whichever lists the two states stand for, the whole stands for the left's list followed by the right's
abbrev pub TakesTogether : {S I : Type 0} → (S → List I → Type 0) → S → S → S → Type 0
TakesTogether {S} {I} stands left right whole = (xs ys : List I) → stands left xs → stands right ys → stands whole (xs ++ ys)
