-- The claim's rule: what holds between any two steps, of the word and of what each seat knows.
-- Source: this project.
use Rattle.std.specs.Prelude.{◌≡◌, ℕ, ◌+◌, List, [], ◌∷◌, length, IsPermutation}
use Rattle.std.specs.List.{flat_map, sum_by}
use Rattle.atomic_table.specs.Table.{State}
use Rattle.loop_batch.specs.declared.views.ClaimView.{ClaimView}
use Rattle.loop_batch.specs.Numbers.{whole_weight, numbers_below}

abbrev pub claim_view : ℕ → List ℕ → ClaimView
claim_view weight drawn = record { weight = weight; drawn = drawn }

-- all numbers that were drawn, by whichever seat
abbrev pub all_drawn : List ClaimView → List ℕ
all_drawn views = flat_map (λ v. v.drawn) views

-- the weight of a seat, and how often it has drawn, together
abbrev pub weight_and_draws : ClaimView → ℕ
weight_and_draws v = v.weight + length v.drawn

-- The rule. All lists of drawn numbers together hold each number below the word once, and no other; all weights and draws
-- together are the whole.
pub record ClaimRule (word : ℕ) (views : List ClaimView) : Type 0 where
  pub drawn : IsPermutation (all_drawn views) (numbers_below word)
  pub weights : sum_by weight_and_draws views ≡ whole_weight

-- a table of one word, which keeps the rule
abbrev pub KeepsRule : State (Unit {0}) ClaimView → Type 0
KeepsRule s = (word : ℕ) × (s.words ≡ word ∷ []) × ClaimRule word s.views
