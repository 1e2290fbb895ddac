-- What a stretch of items answers: that it ran to its end, or where it stopped or faulted. How two answers are combined.
-- Source: this project; that the leftmost stop decides is a loop read from top to bottom.
use Rattle.std.specs.Prelude.{◌≡◌, ℕ, ◌+◌, ◌≤◌, ◌<◌, ⊤, Option, Some, None}
use Rattle.fold_seq.specs.declared.answers.Reduced.{Reduced}
use Rattle.fold_seq.specs.declared.answers.Reduced.TheVariants.{Going, Stopped, Faulted}
use Rattle.fold_seq.specs.declared.answers.End.{End}
use Rattle.fold_seq.specs.declared.answers.End.TheVariants as ends

-- the stretch ran to its end
abbrev pub IsGoing : {S : Type 0} → Reduced S → Type 0
IsGoing (Going _) = ⊤
IsGoing (Stopped _ _ _) = ⊥
IsGoing (Faulted _ _ _) = ⊥

-- the stretch faulted
abbrev pub IsFault : {S : Type 0} → Reduced S → Type 0
IsFault (Going _) = ⊥
IsFault (Stopped _ _ _) = ⊥
IsFault (Faulted _ _ _) = ⊤

-- the stretch did not run to its end
abbrev pub IsStop : {S : Type 0} → Reduced S → Type 0
IsStop (Going _) = ⊥
IsStop (Stopped _ _ _) = ⊤
IsStop (Faulted _ _ _) = ⊤

-- the place of the item at which the stretch stopped or faulted, if it did
abbrev pub stop_place_of : {S : Type 0} → Reduced S → Option ℕ
stop_place_of (Going _) = None
stop_place_of (Stopped at _ _) = Some at
stop_place_of (Faulted at _ _) = Some at

-- the answer is that the stretch ran to its end, and the state is one of these
abbrev pub IsGoingAnd : {S : Type 0} → (S → Type 0) → Reduced S → Type 0
IsGoingAnd P (Going state) = P state
IsGoingAnd P (Stopped _ _ _) = ⊥
IsGoingAnd P (Faulted _ _ _) = ⊥

-- the item at which the stretch stopped or faulted, if it did, lies in the stretch of so many items
abbrev pub StopsWithin : {S : Type 0} → ℕ → ℕ → Reduced S → Type 0
StopsWithin first n (Going _) = ⊤
StopsWithin first n (Stopped at _ _) = (first ≤ at) × (at < first + n)
StopsWithin first n (Faulted at _ _) = (first ≤ at) × (at < first + n)

-- how the stretch ended: the answer without what its state holds
abbrev pub end_of : {S : Type 0} → Reduced S → End
end_of (Going _) = ends.Going
end_of (Stopped at line _) = ends.Stopped at line
end_of (Faulted at line kind) = ends.Faulted at line kind

-- two answers have the same end: they are alike, but for what their states hold
abbrev pub SameEnd : {S T : Type 0} → Reduced S → Reduced T → Type 0
SameEnd one other = end_of one ≡ end_of other

-- the end of two neighbouring stretches: a left that stopped or faulted decides, and else the right does
abbrev pub end_then : End → End → End
end_then ends.Going right = right
end_then (ends.Stopped at line) right = ends.Stopped at line
end_then (ends.Faulted at line kind) right = ends.Faulted at line kind

-- the answer is the right one, with its state replaced by a merge of the left state and it
abbrev pub MergesInto : {S : Type 0} → (S → S → S → Type 0) → S → Reduced S → Reduced S → Type 0
MergesInto merges left (Going right) (Going state) = merges left right state
MergesInto merges left (Stopped at line right) (Stopped at' line' state) = (at' ≡ at) × (line' ≡ line) × merges left right state
MergesInto merges left (Faulted at line kind) (Faulted at' line' kind') = (at' ≡ at) × (line' ≡ line) × (kind' ≡ kind)
MergesInto merges left _ _ = ⊥

-- the answer of two neighbouring stretches: a left that stopped or faulted is the answer, and else the right decides
abbrev pub Combines : {S : Type 0} → (S → S → S → Type 0) → Reduced S → Reduced S → Reduced S → Type 0
Combines merges (Going left) right whole = MergesInto merges left right whole
Combines merges (Stopped at line state) right whole = whole ≡ Stopped at line state
Combines merges (Faulted at line kind) right whole = whole ≡ Faulted at line kind
