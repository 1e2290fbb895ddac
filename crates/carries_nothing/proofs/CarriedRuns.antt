-- Two items of a loop whose second one emits another number from the start: the loop carries something.
use Rattle.std.proofs.Common.{◌≡◌, ℕ, ◌+◌, List, [], ◌∷◌, ◌++◌, ap, sym, ◌∙◌, pos, ℤ}
use Rattle.std.specs.Prelude.{codes}
use Rattle.loop_data.specs.ValueParts.{as_int}
use Rattle.loop_data.specs.declared.value.Value.{Value}
use Rattle.loop_data.specs.declared.value.Value.TheVariants.{Int}
use Rattle.loop_grammar.specs.SkippedFaults.{skips_faults}
use Rattle.loop_grammar.specs.declared.tree.ProgramTree.{ProgramTree}
use Rattle.loop_values.specs.Bindings.{Bindings}
use Rattle.loop_meaning.specs.declared.runs.Run.{Run}
use Rattle.loop_meaning.specs.declared.runs.PlainStop.TheVariants as stop
use Rattle.loop_meaning.specs.declared.steps.BodyEnd.TheVariants as end
use Rattle.loop_meaning.specs.declared.steps.BodyRun.{BodyRun}
use Rattle.loop_meaning.specs.declared.steps.Pair.{Pair}
use Rattle.loop_meaning.specs.declared.steps.Flow.TheVariants.{Going}
use Rattle.loop_meaning.specs.Runs.{after_stop, followed_by, loop_run, with_step}
use Rattle.loop_meaning.specs.Steps.{Step, body_step}
use Rattle.loop_meaning.specs.Stores.{start_store}
use Rattle.carries_nothing.specs.Parts.{CarriesNothing, from_start}

abbrev pub number : ℕ → Value
number n = Int (pos n)

-- the value goes to the reducer s
abbrev pub emits : Value → List Pair
emits v = record { name = codes "s"; input = v } ∷ []

-- a body run that goes on
abbrev pub done : Bindings → List Pair → BodyRun
done names emitted = record { names = names; emitted = emitted; flow = Going }

-- the step emits the value and goes on
pub record Emits (v : Value) (step : Step) : Type 0 where
  pub emitted : step.emitted ≡ emits v
  pub end : step.end ≡ end.Next

module _ (program : ProgramTree) where
  run_emits : (env : Bindings) (item v : Value) (items : List Value) (place : ℕ) → Emits v (body_step program env item place) →
      (loop_run program env (item ∷ items) place).emitted ≡ emits v ++ (loop_run program (body_step program env item place).store items (place + 1)).emitted
  run_emits env item v items place is =
      let step : Step = body_step program env item place in
      let rest : Run = loop_run program step.store items (place + 1) in
      ap (λ how. (with_step (skips_faults program) how step place rest).emitted) is.end ∙ ap (λ l. l ++ rest.emitted) is.emitted

  run_ends : (env : Bindings) (item v : Value) (place : ℕ) → Emits v (body_step program env item place) → (loop_run program env (item ∷ []) place).stop ≡ stop.Ran
  run_ends env item v place is =
      let step : Step = body_step program env item place in
      ap (λ how. (with_step (skips_faults program) how step place (loop_run program step.store [] (place + 1))).stop) is.end

  -- the number that was emitted second
  abbrev second_number : List Pair → ℤ
  second_number (first ∷ second ∷ more) = as_int second.input
  second_number _ = pos 0

  -- where the loop carries nothing, the second item emits the same behind the first and from the start
  pub second_is : (x y : Value) (u v w : ℕ) → CarriesNothing program → Emits (number u) (body_step program (start_store program) x 1) →
      Emits (number v) (body_step program (body_step program (start_store program) x 1).store y 2) → Emits (number w) (body_step program (start_store program) y 2) → pos v ≡ pos w
  second_is x y u v w nothing first behind fresh =
      let start : Bindings = start_store program in
      let whole : (from_start program (x ∷ y ∷ []) 1).emitted ≡ emits (number u) ++ emits (number v) ++ [] =
      run_emits start x (number u) (y ∷ []) 1 first ∙ ap (λ l. emits (number u) ++ l) (run_emits (body_step program start x 1).store y (number v) [] 2 behind) in
      let left : Run = from_start program (x ∷ []) 1 in
      let right : Run = from_start program (y ∷ []) 2 in
      let parts : (followed_by left right).emitted ≡ (emits (number u) ++ []) ++ emits (number w) ++ [] =
      ap (λ how. (after_stop how left right).emitted) (run_ends start x (number u) 1 first)
      ∙ ap (λ l. l ++ right.emitted) (run_emits start x (number u) [] 1 first)
      ∙ ap (λ l. (emits (number u) ++ []) ++ l) (run_emits start y (number w) [] 2 fresh) in
      ap second_number (sym whole ∙ (nothing (x ∷ []) (y ∷ []) 1).emitted ∙ parts)
