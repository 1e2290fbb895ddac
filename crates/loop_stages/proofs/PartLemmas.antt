-- The items of two stretches, one after the other.
use Rattle.std.proofs.Common.{◌≡◌, ℕ, suc, ◌+◌, Bool, true, false, List, [], ◌∷◌, length, refl, ap, sym, ◌∙◌, append_assoc, arith}
use Rattle.loop_grammar.specs.SkippedFaults.{skips_faults}
use Rattle.loop_meaning.specs.declared.steps.Pair.{Pair}
use Rattle.loop_meaning.specs.declared.runs.PlainStop.{PlainStop}
use Rattle.loop_meaning.specs.declared.runs.PlainStop.TheVariants as stop
use Rattle.chain_stages.specs.declared.step_end.StepEnd.{StepEnd}
use Rattle.chain_stages.specs.declared.step_end.StepEnd.TheVariants.{Going, Ended, Fault}
use Rattle.chain_stages.specs.Elements.{emitted_by}
use Rattle.loop_stages.specs.Items.{Taken, after_stop, item_output, items_taken, taken, then_taken, with_item_output}
use Rattle.loop_stages.specs.Laws.{TakenInParts}

same_taken : (stop : PlainStop) (xs ys : List Pair) (m n : ℕ) → xs ≡ ys → m ≡ n → taken xs m stop ≡ taken ys n stop
same_taken stop xs ys m n e f = λ i. taken (e i) (f i) stop

nothing_before : (more : Taken) → more ≡ then_taken (taken [] 0 stop.Ran) more
nothing_before more = same_taken more.stop _ _ _ _ refl (omega arith)

next_first : (skips : Bool) (pairs : List Pair) (place : ℕ) (rest more : Taken) (how : PlainStop) →
    with_item_output skips Going pairs place (after_stop how rest more)
    ≡ after_stop how (with_item_output skips Going pairs place rest) more
next_first skips pairs place rest more stop.Ran = same_taken more.stop _ _ _ _ (sym (append_assoc pairs _ _)) refl
next_first skips pairs place rest more _ = refl

skipped_first : (line kind : ℕ) (pairs : List Pair) (place : ℕ) (rest more : Taken) (how : PlainStop) →
    with_item_output true (Fault line kind) pairs place (after_stop how rest more)
    ≡ after_stop how (with_item_output true (Fault line kind) pairs place rest) more
skipped_first line kind pairs place rest more stop.Ran = same_taken more.stop _ _ _ _ refl (omega arith)
skipped_first line kind pairs place rest more _ = refl

first_then : (skips : Bool) (end : StepEnd) (pairs : List Pair) (place : ℕ) (rest more : Taken) →
    with_item_output skips end pairs place (then_taken rest more) ≡ then_taken (with_item_output skips end pairs place rest) more
first_then skips Going pairs place rest more = next_first skips pairs place rest more rest.stop
first_then skips (Ended line) pairs place rest more = refl
first_then true (Fault line kind) pairs place rest more = skipped_first line kind pairs place rest more rest.stop
first_then false (Fault line kind) pairs place rest more = refl

pub two_stretches : TakenInParts
two_stretches program [] ys place =
    let same : place ≡ place + 0 = omega arith in
    nothing_before (items_taken program ys place) ∙ ap (λ p. then_taken (taken [] 0 stop.Ran) (items_taken program ys p)) same
two_stretches program (x ∷ xs) ys place =
    let o = item_output program x place in
    let skips = skips_faults program in
    let rest = items_taken program xs (place + 1) in
    let same : (place + 1) + length xs ≡ place + suc (length xs) = omega arith in
    ap (with_item_output skips o.end (emitted_by o.elements) place) (two_stretches program xs ys (place + 1))
    ∙ first_then skips o.end (emitted_by o.elements) place rest (items_taken program ys ((place + 1) + length xs))
    ∙ ap (λ p. then_taken (with_item_output skips o.end (emitted_by o.elements) place rest) (items_taken program ys p)) same
