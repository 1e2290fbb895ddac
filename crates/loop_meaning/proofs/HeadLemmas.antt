-- The items of an inner head, one after another, and the heads under it.
use Rattle.std.proofs.Common.{◌≡◌, ℕ, suc, ◌+◌, ◌*◌, ◌<◌, ◌≤◌, true, false, List, ◌∷◌, length, drop, get_or, Result, Ok, Err, OnOk, ap, sym, subst, ◌∙◌, add-one, arith}
use Rattle.std.specs.Prelude.{if◌then◌else◌, ℤ, pos, slice_get, Some}
use Rattle.std.specs.FinMap.{get}
use Rattle.std.proofs.Math.Seq.{drop-cons}
use Rattle.std.proofs.lemmas.List.{drop_all}
use Rattle.std.proofs.lemmas.Option.{get_or_from_slice_get}
use Rattle.number_ranges.specs.Ranges.{range_item}
use Rattle.number_ranges.proofs.Items.{length-items_from, slice_get-items_from}
use Rattle.loop_data.specs.declared.head.Inner.{Inner}
use Rattle.loop_grammar.specs.declared.tree.ProgramTree.{ProgramTree}
use Rattle.loop_values.specs.declared.ranges.InnerRange.{InnerRange}
use Rattle.loop_values.specs.declared.stop.EvalStop.{EvalStop}
use Rattle.loop_values.specs.declared.stop.EvalStop.TheVariants.{NoMemory}
use Rattle.loop_values.specs.InnerItems.{HasItems, Ranged, inner_items, items_of, items_or_fault}
use Rattle.loop_meaning.specs.declared.steps.BodyRun.{BodyRun}
use Rattle.loop_meaning.specs.Statements.{Action, is_going, while_going}
use Rattle.loop_meaning.specs.Steps.{for_each, for_item, inner_runs, with_items}

pub length-items : (r : InnerRange) → length (items_of r) ≡ r.count
length-items r = length-items_from r.first r.step r.count

-- the next item, and then those that are left
pub one_item : (r : InnerRange) (k : ℕ) → k < r.count → drop k (items_of r) ≡ range_item r.first r.step k ∷ drop (k + 1) (items_of r)
one_item r k h =
    let within : k < length (items_of r) = omega (arith, length-items r) in
    let here : get_or (items_of r) k (pos 0) ≡ range_item r.first r.step k = get_or_from_slice_get (items_of r) k (range_item r.first r.step k) (pos 0) (slice_get-items_from r.first r.step r.count k h) in
    drop-cons (items_of r) k (pos 0) within
    ∙ ap (λ x. x ∷ drop (suc k) (items_of r)) here
    ∙ ap (λ j. range_item r.first r.step k ∷ drop j (items_of r)) (sym (add-one k))

module _ (program : ProgramTree) (name : List ℕ) (action : Action) (r : InnerRange) where
  abbrev from : ℕ → Action
  from k = for_each program name (drop k (items_of r)) action

  one_more : (k : ℕ) (run : BodyRun) → k < r.count → from k run ≡ from (k + 1) (while_going (for_item program name action (range_item r.first r.step k)) run)
  one_more k run h = ap (λ items. for_each program name items action run) (one_item r k h)

  -- one more item was taken
  pub taken : (k : ℕ) (run next : BodyRun) → k < r.count → is_going run.flow ≡ true → next ≡ for_item program name action (range_item r.first r.step k) run → from (k + 1) next ≡ from k run
  taken k run next h on is =
      ap (from (k + 1)) is
      ∙ sym (ap (λ b. from (k + 1) (if b then for_item program name action (range_item r.first r.step k) run else run)) on)
      ∙ sym (one_more k run h)

  -- the step is over, and one more item was passed
  pub passed : (k : ℕ) (run : BodyRun) → k < r.count → is_going run.flow ≡ false → from (k + 1) run ≡ from k run
  passed k run h over =
      sym (ap (λ b. from (k + 1) (if b then for_item program name action (range_item r.first r.step k) run else run)) over)
      ∙ sym (one_more k run h)

  pub all_done : (k : ℕ) (run : BodyRun) → r.count ≤ k → from k run ≡ run
  all_done k run h = ap (λ items. for_each program name items action run) (drop_all k (items_of r) (omega (arith, length-items r)))

-- a head whose range has these items
pub one_head : (program : ProgramTree) (head : Inner) (heads : List Inner) (width : ℕ) (run : BodyRun) (r : InnerRange) → Ok (items_of r) ≡ inner_items head.range (get run.names) width →
    for_each program head.name (items_of r) (inner_runs program heads (width * r.count)) run ≡ inner_runs program (head ∷ heads) width run
one_head program head heads width run r e =
    let rest : ℕ → Action = λ n. for_each program head.name (items_of r) (inner_runs program heads (width * n)) in
    ap (λ n. rest n run) (sym (length-items r))
    ∙ ap (λ (q : Result (List ℤ) EvalStop). with_items program.head.line q (λ items. for_each program head.name items (inner_runs program heads (width * length items))) run) e

-- a range that is given has these items
ok_apart : (r : InnerRange) → ◌≡◌ {A = Ranged} (Ok r) (Err NoMemory) → ⊥
ok_apart r e = absurd (cc)

pub items_told : (q : Ranged) (r : InnerRange) (items : Result (List ℤ) EvalStop) → q ≡ Ok r → HasItems q items → Ok (items_of r) ≡ items
items_told q r items e h = subst (λ (z : Ranged). items_or_fault z ≡ items) e (h (λ none. ok_apart r (sym e ∙ none)))

pub then_ok : {T E P Q : Type 0} (r : Result T E) → (P → Q) → OnOk r P → OnOk r Q
then_ok (Ok x) f h = f h
then_ok (Err e) f h = h
