-- How the closures of stages answer, and what a stage other than `Cat` lets through for one element, as the code has them.
-- Source: this project.
use Rattle.std.specs.Prelude.{◌≡◌, ◌≢◌, ℕ, Bool, true, false, List, [], ◌∷◌, ◌++◌, Option, Some, None, Result, Ok, Err}
use Rattle.loop_values.specs.declared.stop.EvalStop.{EvalStop}
use Rattle.loop_values.specs.declared.stop.EvalStop.TheVariants as eval_stop
use Rattle.loop_values.specs.Stops.{fault_number}
use Rattle.loop_meaning.specs.declared.steps.Pair.{Pair}
use Rattle.chain_stages.specs.declared.step_end.StepEnd.{StepEnd}
use Rattle.chain_stages.specs.declared.step_end.StepEnd.TheVariants.{Going, Fault}
use Rattle.transducer_kit.specs.declared.answers.PassStop.{PassStop}
use Rattle.transducer_kit.specs.declared.answers.PassStop.TheVariants as stop
use Rattle.chain_stages.specs.declared.element.Element.{Element}
use Rattle.chain_stages.specs.Elements.{emitted_by}
use Rattle.chain_stages.specs.Stages.{Answer, Output, alone, nothing, output}

-- how a closure stops where an expression of this line has no value
abbrev pub stopped_at : ℕ → EvalStop → PassStop
stopped_at line eval_stop.NoMemory = stop.NoMemory
stopped_at line why = stop.Fault line (fault_number why)

-- ---- closures

-- a closure that stopped so made what the stage lets through: a fault; nothing is said where memory ran out
abbrev pub Stops : Output → PassStop → Type 0
Stops out (stop.Fault line kind) = out ≡ nothing (Fault line kind)
Stops out stop.NoMemory = Unit {0}

-- what a closure made of an element is what the stage lets through, unless memory ran out
abbrev pub Makes : Output → Result Element PassStop → Type 0
Makes out (Ok e) = out ≡ alone e
Makes out (Err why) = Stops out why

-- the same of a closure that makes an element or none
abbrev pub MakesSome : Output → Result (Option Element) PassStop → Type 0
MakesSome out (Ok (Some e)) = out ≡ alone e
MakesSome out (Ok None) = out ≡ nothing Going
MakesSome out (Err why) = Stops out why

-- what was done to an element leaves what the stage lets through, unless memory ran out
abbrev pub Leaves : {T : Type 0} → Output → Result T PassStop → Element → Type 0
Leaves out (Ok done) e = out ≡ alone e
Leaves out (Err why) e = Stops out why

-- the same where the answer tells whether the stage lets the element through
abbrev pub LeavesSome : Output → Result Bool PassStop → Element → Type 0
LeavesSome out (Ok true) e = out ≡ alone e
LeavesSome out (Ok false) e = out ≡ nothing Going
LeavesSome out (Err why) e = Stops out why

abbrev pub told_at : ℕ → Answer → Result Bool PassStop
told_at line (Ok passes) = Ok passes
told_at line (Err why) = Err (stopped_at line why)

-- what a closure answers of an element is what the stage's test answers, unless memory ran out
abbrev pub Tells : ℕ → Answer → Result Bool PassStop → Type 0
Tells line answer told = told ≢ Err stop.NoMemory → told ≡ told_at line answer

-- ---- stages

-- an element or none, and the end after it
abbrev pub let_through : Option Element → StepEnd → Output
let_through None end = nothing end
let_through (Some e) end = output (e ∷ []) end

-- the second end where the first is to go on, and else the first
abbrev pub unless_ended : StepEnd → StepEnd → StepEnd
unless_ended Going after = after
unless_ended end after = end

abbrev pub end_is_going : StepEnd → Bool
end_is_going Going = true
end_is_going _ = false

-- ---- chains

-- The pairs of what left stand behind those that were there, and the answer is the output's end.
pub record Emits (out : Output) (before : List Pair) (end : StepEnd) (after : List Pair) : Type 0 where
  pub ended : end ≡ out.end
  pub pairs : after ≡ before ++ emitted_by out.elements
