-- Two neighbouring stretches of a legal loop, merged; and that their states may be merged at all.
use Rattle.std.proofs.Common.{◌≡◌, ◌≤◌, ◌-◌, ◌+◌, ◌^◌, ◌⊎◌, inl, inr, ℕ, List, [], ◌∷◌, ◌++◌, length, take, drop, refl, sym, ap, ◌∙◌, subst, length-take, length-drop, length-append, arith}
use Rattle.std.proofs.lemmas.List.{drop-drop}
use Rattle.loop_data.specs.declared.value.Value.{Value}
use Rattle.loop_grammar.specs.declared.tree.ProgramTree.{ProgramTree}
use Rattle.legality_rules.specs.Offences.{IsLegal}
use Rattle.loop_meaning.specs.declared.runs.PlainStop.TheVariants as stop
use Rattle.loop_meaning.specs.declared.runs.Run.{Run}
use Rattle.number_ranges.specs.Ranges.{most_items}
use Rattle.loop_meaning.specs.Runs.{after_stop, followed_by}
use Rattle.loop_meaning.specs.Stores.{start_store}
use Rattle.fitting_inputs.proofs.LegalRuns.{legal_parts_emit_few}
use Rattle.loop_meaning.proofs.StopLemmas.{skips_at_most}
use Rattle.carries_nothing.specs.Parts.{GivesSame, from_start}
use Rattle.carries_nothing.proofs.Cuts.{legal_carries_nothing}
use Rattle.reducer_tower.specs.declared.named.Named.{Named}
use Rattle.reducer_tower.specs.declared.row.Emitted.{Emitted}
use Rattle.reducer_tower.specs.Rows.{RowStands}
use Rattle.fold_seq.specs.declared.answers.Reduced.TheVariants.{Going, Stopped, Faulted}
use Rattle.loop_standing.specs.declared.state.LoopState.{LoopState}
use Rattle.loop_standing.specs.Laws.{MergesStand, PartsMayMerge}
use Rattle.program_rows.specs.Pairs.{numbered}
use Rattle.loop_standing.specs.Standing.{HoldsRun, IsFoldable, Merges, StretchStands, stretch_of, stretch_run}
use Rattle.program_rows.proofs.PairLemmas.{numbered-append, numbered_few}
use Rattle.loop_standing.proofs.StandLemmas.{stretch_more}

-- ---- two neighbouring stretches

-- what follows a stretch
pub stretch_two : (items : List Value) (first n m : ℕ) → 1 ≤ first → stretch_of items first (n + m) ≡ stretch_of items first n
    ++ stretch_of items (first + n) m
stretch_two items first n m low =
    let there : (first - 1) + n ≡ (first + n) - 1 = omega (arith, low) in
    stretch_more items first n m
    ∙ ap (λ xs. stretch_of items first n ++ take m xs) (drop-drop n (first - 1) items)
    ∙ ap (λ k. stretch_of items first n ++ take m (drop k items)) there

-- the run over a list from a place that it hasn't, where there is no item, is that from any other
no_place : (program : ProgramTree) (xs : List Value) (p q : ℕ) → (1 ≤ length xs → p ≡ q) →
    from_start program xs p ≡ from_start program xs q
no_place program [] p q h = refl
no_place program (x ∷ xs) p q h =
    let some : 1 ≤ length (x ∷ xs) = omega arith in
    ap (from_start program (x ∷ xs)) (h some)

-- where an item is right of a stretch, the stretch is as long as it is to be
is_whole : (items : List Value) (first n m : ℕ) → 1 ≤ first → 1 ≤ length (stretch_of items (first + n) m) →
    first + length (stretch_of items first n) ≡ first + n
is_whole items first n m low some =
    omega (
      arith,
      low,
      some,
      length-take m (drop ((first + n) - 1) items),
      length-drop ((first + n) - 1) items,
      length-take n
          (drop (first - 1) items),
      length-drop (first - 1) items,
    )

-- the whole is the left followed by the right
whole_gives : (program : ProgramTree) → IsLegal program → (items : List Value) (first n m : ℕ) → 1 ≤ first →
    GivesSame (stretch_run program items first (n + m))
    (followed_by (stretch_run program items first n) (stretch_run program items (first + n) m))
whole_gives program legal items first n m low =
    let left = stretch_of items first n in
    let right = stretch_of items (first + n) m in
    let same : from_start program right (first + length left) ≡ from_start program right (first + n) =
    no_place program right (first + length left) (first + n) (is_whole items first n m low) in
    subst (λ xs. GivesSame (from_start program xs first)
    (followed_by (stretch_run program items first n) (stretch_run program items (first + n) m)))
    (sym (stretch_two items first n m low))
    (subst (λ run. GivesSame (from_start program (left ++ right) first) (followed_by (from_start program left first) run)) same
    (legal_carries_nothing program legal left right first))

-- where the left ran to its end
whole_after : (program : ProgramTree) → IsLegal program → (items : List Value) (first n m : ℕ) → 1 ≤ first →
    (stretch_run program items first n).stop ≡ stop.Ran →
    GivesSame (stretch_run program items first (n + m))
    (after_stop stop.Ran (stretch_run program items first n) (stretch_run program items (first + n) m))
whole_after program legal items first n m low ran =
    subst (λ how. GivesSame (stretch_run program items first (n + m))
    (after_stop how (stretch_run program items first n) (stretch_run program items (first + n) m))) ran
    (whole_gives program legal items first n m low)

-- ---- merged states

held : (row : List Named) (run more whole : Run) (left right state : LoopState) → GivesSame whole (after_stop stop.Ran run more) →
    HoldsRun row run left → HoldsRun row more right → Merges row left right state → HoldsRun row whole state
held row run more whole left right state same h k merged =
    let inputs : numbered row whole.emitted ≡ numbered row run.emitted ++ numbered row more.emitted =
    ap (numbered row) same.emitted ∙ numbered-append row run.emitted more.emitted in
    record {
      stands = subst (λ xs. RowStands row state.row.states.items xs) (sym inputs)
          (merged.stands (numbered row run.emitted) (numbered row more.emitted) h.stands k.stands);
      skips = merged.skips ∙ ap (λ a. a + right.skipped) h.skips ∙ ap (λ b. run.skipped + b) k.skips ∙ sym same.skipped;
    }

pub merges_stand : MergesStand
merges_stand program row items legal first n m left (Going right) (Going whole) low h k merged =
    let same = whole_after program legal items first n m low h.0 in
    (same.stop ∙ k.0, held row _ _ _ left right whole same h.1 k.1 merged)
merges_stand program row items legal first n m left (Stopped at line right) (Stopped at' line' whole) low h k merged =
    let same = whole_after program legal items first n m low h.0 in
    let stops : (stretch_run program items first (n + m)).stop ≡ stop.Break at' k.0 =
    same.stop ∙ k.1 ∙ ap (λ a. stop.Break a k.0) (sym merged.0) in
    (k.0, stops, merged.1 ∙ k.2, held row _ _ _ left right whole same h.1 k.3 merged.2)
merges_stand program row items legal first n m left (Faulted at line kind) (Faulted at' line' kind') low h k merged =
    let same = whole_after program legal items first n m low h.0 in
    same.stop ∙ k ∙ (λ i. stop.Fault (sym merged.0 i) (sym merged.1 i) (sym merged.2 i))
merges_stand program row items legal first n m left (Going right) (Stopped at line whole) low h k merged = absurd merged
merges_stand program row items legal first n m left (Going right) (Faulted at line kind) low h k merged = absurd merged
merges_stand program row items legal first n m left (Stopped at line right) (Going whole) low h k merged = absurd merged
merges_stand program row items legal first n m left (Stopped at line right) (Faulted at' line' kind) low h k merged =
    absurd merged
merges_stand program row items legal first n m left (Faulted at line kind) (Going whole) low h k merged = absurd merged
merges_stand program row items legal first n m left (Faulted at line kind) (Stopped at' line' whole) low h k merged =
    absurd merged

-- ---- states that may be merged

pub stretch_few : (items : List Value) (first n : ℕ) → length (stretch_of items first n) ≤ length items
stretch_few items first n = omega (arith, length-take n (drop (first - 1) items), length-drop (first - 1) items)

-- a stretch emits at most 2^58 pairs
pub pairs_few : (program : ProgramTree) (items : List Value) (first n : ℕ) → IsFoldable program items →
    length (stretch_run program items first n).emitted ≤ 2 ^ 58
pairs_few program items first n known =
    let count : length (stretch_of items first n) ≤ most_items = omega (arith, stretch_few items first n, known.few_items) in
    legal_parts_emit_few program (start_store program) (stretch_of items first n) first known.legal count

-- the inputs and the skipped faults of a run over a stretch
record IsFew (row : List Named) (state : LoopState) : Type 0 where
  pub inputs : List Emitted
  pub stand : RowStands row state.row.states.items inputs
  pub few : length inputs ≤ 2 ^ 58
  pub skips : state.skipped ≤ most_items

few_of : (program : ProgramTree) (row : List Named) (items : List Value) (first n : ℕ) (state : LoopState) →
    IsFoldable program items → HoldsRun row (stretch_run program items first n) state → IsFew row state
few_of program row items first n state known holds = record {
  inputs = numbered row (stretch_run program items first n).emitted;
  stand = holds.stands;
  few = omega (arith, numbered_few row (stretch_run program items first n).emitted, pairs_few program items first n known);
  skips = omega (
    arith,
    holds.skips,
    skips_at_most program (start_store program)
        (stretch_of items first n) first,
    stretch_few items first n,
    known.few_items,
  );
}

right_few : (program : ProgramTree) (row : List Named) (items : List Value) (first n : ℕ) (right : LoopState) →
    IsFoldable program items →
    (StretchStands program row items first n
    (Going right) ⊎ ((at : ℕ) × (line : ℕ) × StretchStands program row items first n (Stopped at line right))) →
    IsFew row right
right_few program row items first n right known (inl h) = few_of program row items first n right known h.1
right_few program row items first n right known (inr (at, line, h)) = few_of program row items first n right known h.3

pub parts_may_merge : PartsMayMerge
parts_may_merge program row items left right known may =
    let (first, n, m, low, h, k) = may in
    let a = few_of program row items first n left known h.1 in
    let b = right_few program row items (first + n) m right known k in
    let room : length (a.inputs ++ b.inputs) ≤ 2 ^ 62 = omega (arith, length-append a.inputs b.inputs, a.few, b.few) in
    ((a.inputs, b.inputs, a.stand, b.stand, room), omega (arith, a.skips, b.skips))
