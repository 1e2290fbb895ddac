-- The run over two lists one after the other.
use Rattle.std.proofs.Common.{◌≡◌, ◌≢◌, ℕ, suc, ◌+◌, Bool, true, false, List, [], ◌∷◌, ◌++◌, length, take, drop, get_or, ◌<◌, add-one, length-take, refl, ap, sym, ◌∙◌, append_assoc, append-nil, arith}
use Rattle.std.proofs.Math.Seq.{take-suc}
use Rattle.std.proofs.lemmas.List.{take-append-drop}
use Rattle.loop_data.specs.declared.value.Value.{Value}
use Rattle.loop_grammar.specs.SkippedFaults.{skips_faults}
use Rattle.loop_grammar.specs.declared.tree.ProgramTree.{ProgramTree}
use Rattle.loop_values.specs.Bindings.{Bindings}
use Rattle.loop_meaning.specs.declared.steps.BodyEnd.{BodyEnd}
use Rattle.loop_meaning.specs.declared.steps.BodyEnd.TheVariants as end
use Rattle.loop_meaning.specs.declared.steps.Pair.{Pair}
use Rattle.loop_meaning.specs.declared.runs.PlainStop.{PlainStop}
use Rattle.loop_meaning.specs.declared.runs.PlainStop.TheVariants as stop
use Rattle.loop_meaning.specs.declared.runs.Run.{Run}
use Rattle.loop_meaning.specs.Runs.{after_stop, followed_by, is_skipped, loop_run, no_run, stop_at, with_step}
use Rattle.loop_meaning.specs.Steps.{Step, body_step}

-- runs with equal parts are equal
same_run : (store : Bindings) (stop : PlainStop) (xs ys : List Pair) (m n : ℕ) → xs ≡ ys → m ≡ n →
    ◌≡◌ {A = Run} (record { store = store; emitted = xs; skipped = m; stop = stop }) (record { store = store; emitted = ys; skipped = n; stop = stop })
same_run store stop xs ys m n e f = λ i. record { store = store; emitted = e i; skipped = f i; stop = stop }

pub nothing_before : (store : Bindings) (more : Run) → more ≡ followed_by (no_run store) more
nothing_before store more = same_run more.store more.stop _ _ _ _ refl (omega arith)

-- ---- a step before a run that is followed by another

next_first : (skips : Bool) (step : Step) (place : ℕ) (rest more : Run) (how : PlainStop) →
    with_step skips end.Next step place (after_stop how rest more) ≡ after_stop how (with_step skips end.Next step place rest) more
next_first skips step place rest more stop.Ran = same_run more.store more.stop _ _ _ _ (sym (append_assoc step.emitted _ _)) refl
next_first skips step place rest more _ = refl

skipped_first : (line kind : ℕ) (step : Step) (place : ℕ) (rest more : Run) (how : PlainStop) →
    with_step true (end.Fault line kind) step place (after_stop how rest more) ≡ after_stop how (with_step true (end.Fault line kind) step place rest) more
skipped_first line kind step place rest more stop.Ran = same_run more.store more.stop _ _ _ _ refl (omega arith)
skipped_first line kind step place rest more _ = refl

first_then : (skips : Bool) (e : BodyEnd) (step : Step) (place : ℕ) (rest : Run) (more : Bindings → Run) →
    with_step skips e step place (followed_by rest (more rest.store)) ≡ followed_by (with_step skips e step place rest) (more (with_step skips e step place rest).store)
first_then skips end.Next step place rest more = next_first skips step place rest (more rest.store) rest.stop
first_then skips (end.Break line) step place rest more = refl
first_then true (end.Fault line kind) step place rest more = skipped_first line kind step place rest (more rest.store) rest.stop
first_then false (end.Fault line kind) step place rest more = refl

-- ---- the run over two lists

module _ (program : ProgramTree) where
  pub two_lists : (store : Bindings) (xs ys : List Value) (place : ℕ) →
      loop_run program store (xs ++ ys) place
      ≡ followed_by (loop_run program store xs place) (loop_run program (loop_run program store xs place).store ys (place + length xs))
  two_lists store [] ys place =
      let same : place ≡ place + 0 = omega arith in
      nothing_before store (loop_run program store ys place) ∙ ap (λ p. followed_by (no_run store) (loop_run program store ys p)) same
  two_lists store (x ∷ xs) ys place =
      let step = body_step program store x place in
      let rest = loop_run program step.store xs (place + 1) in
      let same : (place + 1) + length xs ≡ place + suc (length xs) = omega arith in
      ap (with_step (skips_faults program) step.end step place) (two_lists step.store xs ys (place + 1))
      ∙ first_then (skips_faults program) step.end step place rest (λ store. loop_run program store ys ((place + 1) + length xs))
      ∙ ap (λ p. followed_by (with_step (skips_faults program) step.end step place rest) (loop_run program (with_step (skips_faults program) step.end step place rest).store ys p)) same

  -- one more item
  pub one_more : (store : Bindings) (items : List Value) (i : ℕ) (item : Value) → i < length items → get_or items i item ≡ item →
      loop_run program store (take (i + 1) items) 1
      ≡ followed_by (loop_run program store (take i items) 1) (loop_run program (loop_run program store (take i items) 1).store (item ∷ []) (i + 1))
  one_more store items i item h is =
      let place : 1 + length (take i items) ≡ i + 1 = omega (arith, length-take i items) in
      ap (λ xs. loop_run program store xs 1) (ap (λ n. take n items) (add-one i) ∙ take-suc items i item h ∙ ap (λ x. take i items ++ x ∷ []) is)
      ∙ two_lists store (take i items) (item ∷ []) 1
      ∙ ap (λ p. followed_by (loop_run program store (take i items) 1) (loop_run program (loop_run program store (take i items) 1).store (item ∷ []) p)) place

-- a run that stopped is all
stopped_is_all : (how : PlainStop) (run rest : Run) → how ≢ stop.Ran → after_stop how run rest ≡ run
stopped_is_all stop.Ran run rest ne = absurd (ne refl)
stopped_is_all _ run rest ne = refl

pub nothing_follows : (program : ProgramTree) (store : Bindings) (xs ys : List Value) (place : ℕ) →
    (loop_run program store xs place).stop ≢ stop.Ran → loop_run program store (xs ++ ys) place ≡ loop_run program store xs place
nothing_follows program store xs ys place ne =
    let first = loop_run program store xs place in
    two_lists program store xs ys place ∙ stopped_is_all first.stop first (loop_run program first.store ys (place + length xs)) ne

-- a run over the first of these items that stopped is the run over all
pub stopped_run : (program : ProgramTree) (store : Bindings) (items : List Value) (n : ℕ) (run : Run) →
    run ≡ loop_run program store (take n items) 1 → run.stop ≢ stop.Ran → run ≡ loop_run program store items 1
stopped_run program store items n run is ne =
    let ended : (loop_run program store (take n items) 1).stop ≢ stop.Ran = λ ran. ne (ap (λ (r : Run). r.stop) is ∙ ran) in
    is
    ∙ sym (nothing_follows program store (take n items) (drop n items) 1 ended)
    ∙ ap (λ xs. loop_run program store xs 1) (take-append-drop n items)

-- ---- a run and one item more, as the code has it

-- the step's fault is skipped
skipped_at : (skips : Bool) (e : BodyEnd) (step : Step) (place : ℕ) (run after : Run) → is_skipped skips e ≡ true → run.stop ≡ stop.Ran →
    after ≡ record { store = step.store; emitted = run.emitted; skipped = run.skipped + 1; stop = stop.Ran } →
    after ≡ followed_by run (with_step skips e step place (no_run step.store))
skipped_at true (end.Fault line kind) step place run after e ran is =
    is
    ∙ same_run step.store stop.Ran _ _ _ _ (sym (append-nil run.emitted)) refl
    ∙ sym (ap (λ s. after_stop s run (record { store = step.store; emitted = []; skipped = 1; stop = stop.Ran })) ran)
skipped_at true end.Next step place run after e ran is = absurd (cc (e))
skipped_at true (end.Break line) step place run after e ran is = absurd (cc (e))
skipped_at false b step place run after e ran is = absurd (cc (e))

-- it isn't
kept_at : (skips : Bool) (e : BodyEnd) (step : Step) (place : ℕ) (run after : Run) → is_skipped skips e ≡ false → run.stop ≡ stop.Ran →
    after ≡ record { store = step.store; emitted = run.emitted ++ step.emitted; skipped = run.skipped; stop = stop_at e place } →
    after ≡ followed_by run (with_step skips e step place (no_run step.store))
kept_at skips end.Next step place run after e ran is =
    is
    ∙ same_run step.store stop.Ran _ _ _ _ (ap (λ xs. run.emitted ++ xs) (sym (append-nil step.emitted))) (omega arith)
    ∙ sym (ap (λ s. after_stop s run (record { store = step.store; emitted = step.emitted ++ []; skipped = 0; stop = stop.Ran })) ran)
kept_at skips (end.Break line) step place run after e ran is =
    is
    ∙ same_run step.store (stop.Break place line) _ _ _ _ refl (omega arith)
    ∙ sym (ap (λ s. after_stop s run (record { store = step.store; emitted = step.emitted; skipped = 0; stop = stop.Break place line })) ran)
kept_at true (end.Fault line kind) step place run after e ran is = absurd (cc (e))
kept_at false (end.Fault line kind) step place run after e ran is =
    is
    ∙ same_run step.store (stop.Fault place line kind) _ _ _ _ refl (omega arith)
    ∙ sym (ap (λ s. after_stop s run (record { store = step.store; emitted = step.emitted; skipped = 0; stop = stop.Fault place line kind })) ran)

-- runs with equal parts are equal
pub run_of : (a b : Bindings) (xs ys : List Pair) (m n : ℕ) (p q : PlainStop) → a ≡ b → xs ≡ ys → m ≡ n → p ≡ q →
    ◌≡◌ {A = Run} (record { store = a; emitted = xs; skipped = m; stop = p }) (record { store = b; emitted = ys; skipped = n; stop = q })
run_of a b xs ys m n p q e f g h = λ i. record { store = e i; emitted = f i; skipped = g i; stop = h i }

pub skipped_item : (program : ProgramTree) (run after : Run) (item : Value) (place : ℕ) →
    let step = body_step program run.store item place in
    is_skipped (skips_faults program) step.end ≡ true → run.stop ≡ stop.Ran →
    after ≡ record { store = step.store; emitted = run.emitted; skipped = run.skipped + 1; stop = stop.Ran } →
    after ≡ followed_by run (loop_run program run.store (item ∷ []) place)
skipped_item program run after item place e ran is =
    let step = body_step program run.store item place in
    skipped_at (skips_faults program) step.end step place run after e ran is

pub kept_item : (program : ProgramTree) (run after : Run) (item : Value) (place : ℕ) →
    let step = body_step program run.store item place in
    is_skipped (skips_faults program) step.end ≡ false → run.stop ≡ stop.Ran →
    after ≡ record { store = step.store; emitted = run.emitted ++ step.emitted; skipped = run.skipped; stop = stop_at step.end place } →
    after ≡ followed_by run (loop_run program run.store (item ∷ []) place)
kept_item program run after item place e ran is =
    let step = body_step program run.store item place in
    kept_at (skips_faults program) step.end step place run after e ran is
