-- The numbers by which the faults of a loop, and the other reasons why there is no value or no kind, are named.
-- Source: this project.
use Rattle.std.specs.Prelude.{ℕ}
use Rattle.loop_values.specs.declared.stop.EvalStop.{EvalStop}
use Rattle.loop_values.specs.declared.stop.EvalStop.TheVariants as stop
use Rattle.loop_values.specs.declared.stop.TypeStop.{TypeStop}
use Rattle.loop_values.specs.declared.stop.TypeStop.TheVariants as kind

-- the kinds of faults are 1 to 5
abbrev pub fault_number : EvalStop → ℕ
fault_number stop.DivideError = 1
fault_number stop.NotANumber = 2
fault_number stop.TooManyInner = 3
fault_number stop.TextTooLong = 4
fault_number stop.StepZero = 5
fault_number stop.NoMemory = 6

abbrev pub type_stop_number : TypeStop → ℕ
type_stop_number kind.Differs = 1
type_stop_number kind.NoMemory = 2
