-- What a value that is lent or made is worth, in the evaluation of expressions.
-- Source: this project.
use Rattle.std.specs.Prelude.{Result, Ok, Err}
use Rattle.loop_data.specs.declared.value.Value.{Value}
use Rattle.loop_values.specs.declared.stop.EvalStop.{EvalStop}
use Rattle.loop_values.specs.declared.seen.Seen.{Seen}
use Rattle.loop_values.specs.declared.seen.Seen.TheVariants.{Lent, Made}
use Rattle.loop_values.specs.Operations.{Outcome}

abbrev pub worth : Seen → Value
worth (Lent r) = r.now
worth (Made v) = v

abbrev pub worth_of : Result Seen EvalStop → Outcome
worth_of (Ok s) = Ok (worth s)
worth_of (Err s) = Err s
