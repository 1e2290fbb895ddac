use Rattle.std.proofs.Common.{[], length}
use Rattle.column_input.specs.Table.{contents}
use Rattle.data_files.proofs.TableLemmas.{one_table}
use Rattle.data_files.proofs.laws.held_files_are_one_table.Goals as goal

pub returns : goal.returns
returns c names files held table short e = one_table names files held (length names) 0 (contents [] [] 0) table short e
