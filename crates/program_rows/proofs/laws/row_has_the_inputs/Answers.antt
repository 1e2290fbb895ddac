use Rattle.program_rows.proofs.InputLemmas.{inputs_in_row}
use Rattle.program_rows.proofs.laws.row_has_the_inputs.Goals as goal

pub returns : goal.returns
returns c = inputs_in_row
