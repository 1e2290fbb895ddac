use Rattle.std.proofs.Common.{Ok, []}
use Rattle.column_input.proofs.WholeLemmas.{one_more}
use Rattle.column_input.specs.Limits.{max_fields}
use Rattle.column_input.specs.Table.{contents}
use Rattle.column_input.proofs.laws.one_more_file_is_appended.Goals as goal

pub returns : goal.returns
returns c files more table e = one_more max_fields (Ok (contents [] [] 0)) files more table e
