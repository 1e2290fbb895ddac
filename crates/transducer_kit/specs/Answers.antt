-- What a step answers: that the state takes further items, that the fold ended, that the item faulted, or that memory ran out.
-- Source: this project.
use Rattle.std.specs.Prelude.{Bool, true, false, Result, Ok, Err}
use Rattle.no_memory.specs.declared.NoMemory.{NoMemory}
use Rattle.chain_stages.specs.declared.step_end.StepEnd.{StepEnd}
use Rattle.chain_stages.specs.declared.step_end.StepEnd.TheVariants as end
use Rattle.transducer_kit.specs.declared.answers.PassStop.{PassStop}
use Rattle.transducer_kit.specs.declared.answers.PassStop.TheVariants as stop

-- the answer of a step
abbrev pub Answer : Type 0
Answer = Result StepEnd NoMemory

-- the answer of a step whose closure stopped
abbrev pub answer_of : PassStop → Answer
answer_of (stop.Fault line kind) = Ok (end.Fault line kind)
answer_of stop.NoMemory = Err (record {})

-- the first where the answer is to go on, and else the second
abbrev pub if_going : Answer → Type 0 → Type 0 → Type 0
if_going (Ok end.Going) going stopped = going
if_going (Ok (end.Ended line)) going stopped = stopped
if_going (Ok (end.Fault line kind)) going stopped = stopped
if_going (Err e) going stopped = stopped

-- the answer is to go on, and this holds; or memory ran out, unless none is taken
abbrev pub GoesOnWith : (free holds : Type 0) → Answer → Type 0
GoesOnWith free holds (Ok end.Going) = holds
GoesOnWith free holds (Ok (end.Ended line)) = ⊥
GoesOnWith free holds (Ok (end.Fault line kind)) = ⊥
GoesOnWith free holds (Err e) = ¬ free

-- whether the answer is to go on
abbrev pub is_going : Answer → Bool
is_going (Ok end.Going) = true
is_going (Ok (end.Ended line)) = false
is_going (Ok (end.Fault line kind)) = false
is_going (Err e) = false
