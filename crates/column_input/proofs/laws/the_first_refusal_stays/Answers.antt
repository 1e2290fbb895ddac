use Rattle.std.proofs.Common.{Ok, []}
use Rattle.column_input.proofs.WholeLemmas.{refusal_stays}
use Rattle.column_input.specs.Limits.{max_fields}
use Rattle.column_input.specs.Table.{contents}
use Rattle.column_input.proofs.laws.the_first_refusal_stays.Goals as goal

pub returns : goal.returns
returns c files more refusal e = refusal_stays max_fields (Ok (contents [] [] 0)) files more refusal e
