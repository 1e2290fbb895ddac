-- The run of the plain loop: its items one after another on one thread, with one store that lives on.
-- Source: a loop read from top to bottom, as in FLoops.jl without its macro; skipped faults are this project's.
use Rattle.std.specs.Prelude.{ℕ, ◌+◌, Bool, true, false, ◌&&◌, List, [], ◌∷◌, ◌++◌}
use Rattle.loop_data.specs.declared.value.Value.{Value}
use Rattle.loop_grammar.specs.SkippedFaults.{skips_faults}
use Rattle.loop_grammar.specs.declared.tree.ProgramTree.{ProgramTree}
use Rattle.loop_values.specs.Bindings.{Bindings}
use Rattle.loop_meaning.specs.declared.steps.BodyEnd.{BodyEnd}
use Rattle.loop_meaning.specs.declared.steps.BodyEnd.TheVariants as end
use Rattle.loop_meaning.specs.declared.runs.PlainStop.{PlainStop}
use Rattle.loop_meaning.specs.declared.runs.PlainStop.TheVariants as stop
use Rattle.loop_meaning.specs.declared.runs.Run.{Run}
use Rattle.loop_meaning.specs.Steps.{Step, body_step}

-- ---- what follows from the end of a step

abbrev pub is_fault : BodyEnd → Bool
is_fault end.Next = false
is_fault (end.Break line) = false
is_fault (end.Fault line kind) = true

-- whether a step that ended so is skipped: where faults are, each fault is
abbrev pub is_skipped : Bool → BodyEnd → Bool
is_skipped skips e = skips && is_fault e

-- how a run stands behind a step that ended so at this place, and isn't skipped
abbrev pub stop_at : BodyEnd → ℕ → PlainStop
stop_at end.Next place = stop.Ran
stop_at (end.Break line) place = stop.Break place line
stop_at (end.Fault line kind) place = stop.Fault place line kind

-- ---- the run

-- nothing ran
abbrev pub no_run : Bindings → Run
no_run store = record { store = store; emitted = []; skipped = 0; stop = stop.Ran }

-- the run ends with this step
abbrev pub stopped : Step → PlainStop → Run
stopped step how = record { store = step.store; emitted = step.emitted; skipped = 0; stop = how }

-- The run of a step, which ended so, at a place, and of the rest. Its pairs come first, unless its fault is skipped: then none
-- of them count, and one more fault is skipped.
abbrev pub with_step : Bool → BodyEnd → Step → ℕ → Run → Run
with_step skips end.Next step place rest = record rest { emitted = step.emitted ++ rest.emitted }
with_step skips (end.Break line) step place rest = stopped step (stop.Break place line)
with_step true (end.Fault line kind) step place rest = record rest { skipped = rest.skipped + 1 }
with_step false (end.Fault line kind) step place rest = stopped step (stop.Fault place line kind)

-- The run from a store over items, the first of which has this place.
abbrev pub loop_run : ProgramTree → Bindings → List Value → ℕ → Run
loop_run program store [] place = no_run store
loop_run program store (item ∷ items) place =
    let step = body_step program store item place in
    with_step (skips_faults program) step.end step place (loop_run program step.store items (place + 1))

-- ---- two runs one after the other

abbrev pub after_stop : PlainStop → Run → Run → Run
after_stop stop.Ran run more = record {
  store = more.store;
  emitted = run.emitted ++ more.emitted;
  skipped = run.skipped + more.skipped;
  stop = more.stop;
}
after_stop _ run more = run

-- a run and what follows it: a run that stopped is all
abbrev pub followed_by : Run → Run → Run
followed_by run more = after_stop run.stop run more
