use Rattle.column_input.proofs.WholeLemmas.{is_whole}
use Rattle.column_input.proofs.laws.tables_are_whole.Goals as goal

pub returns : goal.returns
returns c = is_whole
