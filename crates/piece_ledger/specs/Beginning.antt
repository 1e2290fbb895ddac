-- What beginning a part does, by the number that is loaded.
-- Source: this project.
use Rattle.std.specs.Prelude.{◌≡◌, ℕ, ◌⊎◌, if◌then◌else◌, nat_lt, List, [], ◌∷◌, ◌++◌, length}
use Rattle.splittable.specs.Parts.{Stretch}
use Rattle.fold_seq.specs.declared.answers.Reduced.{Reduced}
use Rattle.stop_word.specs.Numbers.{whole_weight, least_of, IsAtMost}
use Rattle.stop_word.specs.Seats.{SeatState}
use Rattle.piece_ledger.specs.declared.outcomes.Outcome.{Outcome}
use Rattle.piece_ledger.specs.declared.outcomes.OutcomeKind.TheVariants.{Ran, Skipped}
use Rattle.piece_ledger.specs.declared.beginning.Begun.{Begun}
use Rattle.piece_ledger.specs.declared.beginning.Begun.TheVariants as begun
use Rattle.piece_ledger.specs.Outcomes.{stops_of_answer}

-- Skipped exactly where the loaded number is left of the part, Longer exactly where it isn't and the part is longer than the
-- least part size, and Ran exactly where it isn't and the part isn't longer
abbrev pub begun_by : ℕ → Stretch → ℕ → Begun
begun_by loaded part least =
    if nat_lt loaded part.first then begun.Skipped else if nat_lt least part.len then begun.Longer else begun.Ran

module _ {S : Type 0} where
  -- What a call did to the seat and the log, where it loaded this number and gave this answer. A part that was run has an
  -- answer that stands for it, is logged last, and its stop, if it has one, is reported, which reads one number more.
  abbrev pub IsDone : (ℕ → ℕ → Reduced S → Type 0) → Stretch → ℕ → SeatState → SeatState → List (Outcome S) → List (Outcome S) →
      Begun → Type 0
  IsDone stands part loaded old new log log' begun.Skipped =
      (new.seen ≡ old.seen ++ loaded ∷ []) × (new.reported ≡ old.reported)
      × (log' ≡ log ++ (record { part = part; kind = Skipped loaded }) ∷ [])
  IsDone stands part loaded old new log log' begun.Longer =
      (new.seen ≡ old.seen ++ loaded ∷ []) × (new.reported ≡ old.reported) × (log' ≡ log)
  IsDone stands part loaded old new log log' begun.Ran =
      (answer : Reduced S) × (told : List ℕ) × stands part.first part.len answer
      × (new.seen ≡ old.seen ++ loaded ∷ told) × (length told ≡ length (stops_of_answer answer))
      × (new.reported ≡ old.reported ++ stops_of_answer answer)
      × (log' ≡ log ++ (record { part = part; kind = Ran answer }) ∷ [])

  -- A part was begun. The number that was loaded is at most each that the seat had reported or seen, and with the whole
  -- weight it is the least that was reported.
  pub record IsBegun (stands : ℕ → ℕ → Reduced S → Type 0) (least : ℕ) (part : Stretch) (old new : SeatState)
      (log log' : List (Outcome S)) (answer : Begun) : Type 0 where
    pub loaded : ℕ
    pub answer_is : answer ≡ begun_by loaded part least
    pub done : IsDone stands part loaded old new log log' answer
    pub least_reported : IsAtMost loaded old.reported
    pub least_seen : IsAtMost loaded old.seen
    pub exact : old.weight ≡ whole_weight → loaded ≡ least_of old.reported

  -- memory ran out: nothing was reported or logged, and the word may have been loaded
  pub record IsRefused (old new : SeatState) (log log' : List (Outcome S)) : Type 0 where
    pub log_is : log' ≡ log
    pub reported : new.reported ≡ old.reported
    pub seen : (new.seen ≡ old.seen) ⊎ ((loaded : ℕ) × (new.seen ≡ old.seen ++ loaded ∷ []))
