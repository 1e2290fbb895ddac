-- The stop word's rule: what holds between any two steps, of the word and of what each seat knows.
-- Source: this project.
use Rattle.std.specs.Prelude.{◌≡◌, ℕ, ◌⊎◌, List, [], ◌∷◌}
use Rattle.std.specs.List.{All, Contains, flat_map, sum_by}
use Rattle.atomic_table.specs.Table.{State}
use Rattle.stop_word.specs.declared.views.StopView.{StopView}
use Rattle.stop_word.specs.Numbers.{no_stop, whole_weight, AreAmong, IsAtMost}

abbrev pub stop_view : ℕ → List ℕ → List ℕ → StopView
stop_view weight reported seen = record { weight = weight; reported = reported; seen = seen }

-- all places that were reported, by whichever seat
abbrev pub all_reported : List StopView → List ℕ
all_reported views = flat_map (λ v. v.reported) views

-- all numbers that were seen, by whichever seat
abbrev pub all_seen : List StopView → List ℕ
all_seen views = flat_map (λ v. v.seen) views

-- a view of no weight has two empty lists
abbrev pub IsIdleEmpty : StopView → Type 0
IsIdleEmpty v = v.weight ≡ 0 → (v.reported ≡ []) × (v.seen ≡ [])

-- The rule. The word is no stop or was reported, it is at most each number that was reported or seen, each number that was
-- seen is no stop or was reported, and the weights are the whole.
pub record StopRule (word : ℕ) (views : List StopView) : Type 0 where
  pub stands : (word ≡ no_stop) ⊎ Contains (all_reported views) word
  pub least_reported : IsAtMost word (all_reported views)
  pub least_seen : IsAtMost word (all_seen views)
  pub known : AreAmong (all_reported views) (all_seen views)
  pub weights : sum_by (λ v. v.weight) views ≡ whole_weight
  pub idle : All IsIdleEmpty views

-- a table of one word, which keeps the rule
abbrev pub KeepsRule : State (Unit {0}) StopView → Type 0
KeepsRule s = (word : ℕ) × (s.words ≡ word ∷ []) × StopRule word s.views
