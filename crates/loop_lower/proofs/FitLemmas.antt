-- What the step of each item of a loop emits fits the row.
use Rattle.std.proofs.Common.{◌≡◌, ℕ, ◌≤◌, ◌-◌, Bool, true, false, List, ◌∷◌, take, drop, refl, sym, ap, ◌∙◌, subst}
use Rattle.std.proofs.Math.Bool.{Bool-set}
use Rattle.std.proofs.Math.Logic.{∥∥₁_elim}
use Rattle.std.proofs.lemmas.List.{take-append-drop}
use Rattle.std.proofs.lemmas.List.Folds.{list_all-append}
use Rattle.std.specs.List.{list_all}
use Rattle.std.specs.Prelude.{◌&&◌}
use Rattle.number_ranges.specs.Ranges.{most_items}
use Rattle.loop_data.specs.declared.value.Value.{Value}
use Rattle.loop_values.specs.Fits.{fits}
use Rattle.loop_grammar.specs.declared.tree.ProgramTree.{ProgramTree}
use Rattle.loop_syntax.proofs.WellFormedTexts.{well_formed_is_spelled}
use Rattle.loop_meaning.specs.Items.{sources_of}
use Rattle.reducer_tower.specs.declared.named.Named.{Named}
use Rattle.fitting_inputs.proofs.ItemLemmas.{items_fit}
use Rattle.fitting_inputs.proofs.LegalRuns.{legal_heads_have_kinds, legal_steps_fit}
use Rattle.program_rows.specs.Pairs.{pairs_fit}
use Rattle.program_rows.specs.Rows.{row_of}
use Rattle.program_rows.proofs.FitLemmas.{fitting_pairs_fit}
use Rattle.loop_standing.specs.Standing.{IsFoldable, stretch_of}
use Rattle.loop_lower.specs.Jobs.{AreHeadItems}
use Rattle.loop_lower.specs.Walked.{step_pairs}

both_true : (a b : Bool) → (a && b) ≡ true → (a ≡ true) × (b ≡ true)
both_true true b e = (refl, e)
both_true false b e = absurd (cc (e))

-- what holds of all holds of the first of them, and of those behind
all_cut : {A : Type 0} (p : A → Bool) (n : ℕ) (xs : List A) → list_all p xs ≡ true → (list_all p (take n xs) ≡ true) × (list_all p (drop n xs) ≡ true)
all_cut p n xs e =
    both_true (list_all p (take n xs)) (list_all p (drop n xs))
    (sym (list_all-append p (take n xs) (drop n xs)) ∙ ap (list_all p) (take-append-drop n xs) ∙ e)

-- and so of an item of a stretch
stretch_all : (p : Value → Bool) (items : List Value) (first count n : ℕ) (item : Value) (left : List Value) → list_all p items ≡ true →
    drop n (stretch_of items first count) ≡ item ∷ left → p item ≡ true
stretch_all p items first count n item left all there =
    let behind = (all_cut p (first - 1) items all).1 in
    let stretch = (all_cut p count (drop (first - 1) items) behind).0 in
    let rest = (all_cut p n (stretch_of items first count) stretch).1 in
    let here : list_all p (item ∷ left) ≡ true = ap (list_all p) (sym there) ∙ rest in
    (both_true (p item) (list_all p left) here).0

head_pairs_fit : (program : ProgramTree) (items : List Value) → IsFoldable program items → AreHeadItems program items → (first count n : ℕ) (item : Value) (left : List Value) →
    drop n (stretch_of items first count) ≡ item ∷ left → (place : ℕ) → 1 ≤ place → place ≤ most_items → pairs_fit (row_of program) (step_pairs program item place) ≡ true
head_pairs_fit program items known of_head first count n item left there place low high =
    let spelled = well_formed_is_spelled program known.formed in
    let (kind, is, takes) = legal_heads_have_kinds _ program spelled known.legal in
    let all : list_all (fits kind) items ≡ true = ap (list_all (fits kind)) of_head.are ∙ items_fit program.head (sources_of program of_head.table) kind is in
    let one = stretch_all (fits kind) items first count n item left all there in
    fitting_pairs_fit program (step_pairs program item place) (legal_steps_fit _ program kind item place spelled known.legal is one low high)

-- what the step of an item of a stretch emits fits the row, at each place
pub item_pairs_fit : (program : ProgramTree) (items : List Value) (row : List Named) → IsFoldable program items → ∥ AreHeadItems program items ∥₁ → row ≡ row_of program →
    (first count n : ℕ) (item : Value) (left : List Value) → drop n (stretch_of items first count) ≡ item ∷ left → (place : ℕ) → 1 ≤ place → place ≤ most_items →
    pairs_fit row (step_pairs program item place) ≡ true
item_pairs_fit program items row known of_head is first count n item left there place low high =
    subst (λ r. pairs_fit r (step_pairs program item place) ≡ true) (sym is)
    (∥∥₁_elim of_head (Bool-set _ _) (λ head. head_pairs_fit program items known head first count n item left there place low high))
