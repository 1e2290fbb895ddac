use Rattle.column_input.proofs.WholeLemmas.{holds_files}
use Rattle.column_input.proofs.laws.tables_hold_their_files.Goals as goal

pub returns : goal.returns
returns c = holds_files
