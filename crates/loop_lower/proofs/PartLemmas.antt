-- The run over the items of a part so far, one item more, and the whole, as a part follows them.
use Rattle.std.proofs.Common.{◌≡◌, ◌≢◌, ℕ, ◌+◌, ◌<◌, ◌≤◌, List, [], ◌∷◌, ◌++◌, length, take, drop, refl, sym, ap, subst, ◌∙◌, length-take, length-drop, arith}
use Rattle.std.proofs.Math.Seq.{take-add}
use Rattle.std.proofs.lemmas.List.{take-append-drop, take_all, drop-drop}
use Rattle.loop_data.specs.declared.value.Value.{Value}
use Rattle.loop_grammar.specs.declared.tree.ProgramTree.{ProgramTree}
use Rattle.legality_rules.specs.Offences.{IsLegal}
use Rattle.loop_meaning.specs.declared.runs.PlainStop.TheVariants as stop
use Rattle.loop_meaning.specs.declared.runs.Run.{Run}
use Rattle.loop_meaning.specs.Runs.{after_stop}
use Rattle.loop_meaning.specs.Stores.{start_store}
use Rattle.loop_meaning.proofs.RunLemmas.{nothing_follows}
use Rattle.loop_meaning.proofs.StopLemmas.{skips_at_most}
use Rattle.carries_nothing.specs.Parts.{GivesSame, from_start}
use Rattle.carries_nothing.proofs.Cuts.{legal_carries_nothing}
use Rattle.reducer_tower.specs.declared.named.Named.{Named}
use Rattle.reducer_tower.specs.Rows.{RowStands}
use Rattle.program_rows.specs.Pairs.{numbered}
use Rattle.program_rows.specs.Pairs.{HaveRoom}
use Rattle.fold_seq.specs.declared.answers.Reduced.TheVariants.{Going, Stopped, Faulted}
use Rattle.loop_stages.specs.Breaks.{stage_line}
use Rattle.loop_standing.specs.Standing.{Answers, HoldsRun, IsUnit}
use Rattle.program_rows.proofs.PairLemmas.{numbered-append, numbered_few}
use Rattle.number_ranges.specs.Ranges.{most_items}
use Rattle.fitting_inputs.proofs.LegalRuns.{legal_parts_emit_few, legal_steps_emit_few}
use Rattle.loop_lower.specs.Walked.{Adds, item_run, step_pairs}
use Rattle.loop_lower.specs.declared.part.Walked.{Walked}

module _ (program : ProgramTree) (legal : IsLegal program) (row : List Named) (items : List Value) (first : ℕ) where
  abbrev pub whole : Run
  whole = from_start program items first

  -- the run over the first of the items
  abbrev pub so_far : ℕ → Run
  so_far n = from_start program (take n items) first

  -- so many items ran to their end, and the others are left
  pub record Walking (n : ℕ) (rest : List Value) (walked : Walked) : Type 0 where
    pub left : rest ≡ drop n items
    pub ran : (so_far n).stop ≡ stop.Ran
    pub holds : HoldsRun row (so_far n) walked.state
    pub emptied : walked.emitted ≡ []

  pub walk_begins : (rest : List Value) (walked : Walked) → rest ≡ items → IsUnit row walked.state → walked.emitted ≡ [] → Walking 0 rest walked
  walk_begins rest walked e unit emptied = record { left = e; ran = refl; holds = record { stands = unit.stands; skips = unit.skips }; emptied = emptied }

  -- faults are skipped at most once an item
  pub skipped_few : (n : ℕ) (rest : List Value) (walked : Walked) → Walking n rest walked → walked.state.skipped ≤ n
  skipped_few n rest walked w =
      omega (arith, w.holds.skips, skips_at_most program (start_store program) (take n items) first, length-take n items)

  -- where no item is left, the run is the whole
  pub ran_out : (n : ℕ) (rest : List Value) (walked : Walked) → Walking n rest walked → length items ≤ n → Answers program row whole (Going walked.state)
  ran_out n rest walked w all =
      let same = ap (λ xs. from_start program xs first) (take_all n items all) in
      subst (λ (run : Run). Answers program row run (Going walked.state)) same (w.ran, w.holds)

  pub none_left : (n : ℕ) (rest : List Value) (walked : Walked) → Walking n rest walked → rest ≡ [] → length items ≤ n
  none_left n rest walked w none = omega (arith, ap length (sym w.left ∙ none), length-drop n items)

  module _ (n : ℕ) (rest left : List Value) (item : Value) (walked : Walked) (w : Walking n rest walked) (e : rest ≡ item ∷ left) where
    -- the run of the next item
    abbrev pub next_item : Run
    next_item = item_run program item (first + n)

    pub dropped : drop n items ≡ item ∷ left
    dropped = sym w.left ∙ e

    pub there : n < length items
    there = omega (arith, ap length dropped, length-drop n items)

    one_longer : take (n + 1) items ≡ take n items ++ item ∷ []
    one_longer = take-add n 1 items ∙ ap (λ xs. take n items ++ take 1 xs) dropped

    later : drop (n + 1) items ≡ left
    later = sym (drop-drop 1 n items) ∙ ap (λ xs. drop 1 xs) dropped

    -- with one item more
    with_next : GivesSame (so_far (n + 1)) (after_stop stop.Ran (so_far n) next_item)
    with_next =
        let place : first + length (take n items) ≡ first + n = omega (arith, length-take n items, there) in
        let cut = legal_carries_nothing program legal (take n items) (item ∷ []) first in
        subst (λ xs. GivesSame (from_start program xs first) (after_stop stop.Ran (so_far n) next_item)) (sym one_longer)
        (subst (λ p. GivesSame (from_start program (take n items ++ item ∷ []) first) (after_stop stop.Ran (so_far n) (item_run program item p))) place
        (subst (λ how. GivesSame (from_start program (take n items ++ item ∷ []) first) (after_stop how (so_far n) (item_run program item (first + length (take n items))))) w.ran cut))

    -- the states have room for what the step of the item emits
    pub next_has_room : length items ≤ most_items → HaveRoom row walked.state.row (length (step_pairs program item (first + n)))
    next_has_room few =
        let fewer : length (take n items) ≤ most_items = omega (arith, few, length-take n items) in (
          numbered row (so_far n).emitted,
          w.holds.stands,
          omega (arith, numbered_few row (so_far n).emitted, legal_parts_emit_few program (start_store program) (take n items) first legal fewer, legal_steps_emit_few program (start_store program) item (first + n) legal),
        )

    -- the states with what the item emits hold the run with that item
    next_holds : (after : Walked) → Adds row next_item walked after → HoldsRun row (so_far (n + 1)) after.state
    next_holds after adds =
        let inputs : numbered row (so_far (n + 1)).emitted ≡ numbered row (so_far n).emitted ++ numbered row next_item.emitted = ap (numbered row) with_next.emitted ∙ numbered-append row (so_far n).emitted next_item.emitted in
        record {
          stands = subst (λ xs. RowStands row after.state.row.states.items xs) (sym inputs) (adds.states (numbered row (so_far n).emitted) w.holds.stands);
          skips = adds.skips ∙ ap (λ k. k + next_item.skipped) w.holds.skips ∙ sym with_next.skipped;
        }

    pub walk_goes_on : (after : Walked) → next_item.stop ≡ stop.Ran → Adds row next_item walked after → Walking (n + 1) left after
    walk_goes_on after ran adds = record {
      left = sym later;
      ran = with_next.stop ∙ ran;
      holds = next_holds after adds;
      emptied = adds.emptied;
    }

    -- a run that stops at the item is the whole
    stops_here : next_item.stop ≢ stop.Ran → whole ≡ so_far (n + 1)
    stops_here ne =
        ap (λ xs. from_start program xs first) (sym (take-append-drop (n + 1) items))
        ∙ nothing_follows program (start_store program) (take (n + 1) items) (drop (n + 1) items) first (λ ran. ne (sym with_next.stop ∙ ran))

    pub break_ends : (after : Walked) (own line : ℕ) → next_item.stop ≡ stop.Break (first + n) own → line ≡ stage_line program own → Adds row next_item walked after →
        Answers program row whole (Stopped (first + n) line after.state)
    break_ends after own line how staged adds =
        let same = stops_here (λ ran. absurd (cc (how, ran))) in
        subst (λ (run : Run). Answers program row run (Stopped (first + n) line after.state)) (sym same)
        (own, with_next.stop ∙ how, staged, next_holds after adds)

    pub fault_ends : (line kind : ℕ) → next_item.stop ≡ stop.Fault (first + n) line kind → Answers program row whole (Faulted (first + n) line kind)
    fault_ends line kind how =
        let same = stops_here (λ ran. absurd (cc (how, ran))) in
        ap (λ (run : Run). run.stop) same ∙ with_next.stop ∙ how
