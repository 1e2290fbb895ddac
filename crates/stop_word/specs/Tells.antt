-- What each step on the stop word tells the seat that takes it: of its own view, and of the word that it found.
-- Source: this project.
use Rattle.std.specs.Prelude.{◌≡◌, ℕ, ◌≤◌}
use Rattle.atomic_table.specs.Table.{Me, Step}
use Rattle.stop_word.specs.declared.views.StopView.{StopView}
use Rattle.stop_word.specs.Numbers.{whole_weight, least_of, AreAmong, IsAtMost}
use Rattle.stop_word.specs.Steps.{view_loaded, view_reported}

-- a seat's view, and the slots that it holds, of which a stop word has none
abbrev SeatNow : Type 0
SeatNow = Me (Unit {0}) StopView

-- what the rule says of a view
pub record IsTold (v : StopView) : Type 0 where
  pub most : v.weight ≤ whole_weight
  pub known : v.weight ≡ whole_weight → AreAmong v.reported v.seen

-- what the rule says of the word that a step found, where the seat had the view v
pub record IsFound (v : StopView) (found : ℕ) : Type 0 where
  pub least_reported : IsAtMost found v.reported
  pub least_seen : IsAtMost found v.seen
  pub exact : v.weight ≡ whole_weight → found ≡ least_of v.reported

abbrev pub loads : Step (Unit {0}) → SeatNow → ℕ → SeatNow → Type 0
loads s before found after = (after ≡ (view_loaded before.0 found, before.1)) × IsFound before.0 found × IsTold after.0

abbrev pub reports : Step (Unit {0}) → SeatNow → ℕ → SeatNow → Type 0
reports s before found after =
    (after ≡ (view_reported before.0 s.first found, before.1)) × IsFound before.0 found × IsTold after.0

abbrev pub looks : Step (Unit {0}) → SeatNow → ℕ → SeatNow → Type 0
looks s before found after = (after ≡ before) × IsTold after.0
