-- What each step on a claim tells the seat that takes it: of its own view, and of the word that it found.
-- Source: this project.
use Rattle.std.specs.Prelude.{◌≡◌, ℕ, ◌≤◌, length, IsPermutation}
use Rattle.atomic_table.specs.Table.{Me, Step}
use Rattle.loop_batch.specs.declared.views.ClaimView.{ClaimView}
use Rattle.loop_batch.specs.Numbers.{whole_weight, numbers_below, IsAbove}
use Rattle.loop_batch.specs.Rule.{weight_and_draws}
use Rattle.loop_batch.specs.Steps.{view_drawn}

-- a seat's view, and the slots that it holds, of which a claim has none
abbrev SeatNow : Type 0
SeatNow = Me (Unit {0}) ClaimView

-- what the rule says of a view: where weight and draws are the whole, the seat has drawn all that was drawn
pub record IsTold (v : ClaimView) : Type 0 where
  pub most : weight_and_draws v ≤ whole_weight
  pub known : weight_and_draws v ≡ whole_weight → IsPermutation v.drawn (numbers_below (length v.drawn))

-- what the rule says of the word that a draw found, where the seat had the view v
pub record IsFound (v : ClaimView) (found : ℕ) : Type 0 where
  pub above : IsAbove found v.drawn
  pub many : length v.drawn ≤ found
  pub exact : weight_and_draws v ≡ whole_weight → found ≡ length v.drawn

abbrev pub draws : Step (Unit {0}) → SeatNow → ℕ → SeatNow → Type 0
draws s before found after = (after ≡ (view_drawn before.0 found, before.1)) × IsFound before.0 found × IsTold after.0

abbrev pub looks : Step (Unit {0}) → SeatNow → ℕ → SeatNow → Type 0
looks s before found after = (after ≡ before) × IsTold after.0
