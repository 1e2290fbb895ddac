use Rattle.program_rows.proofs.RowLemmas.{first_lines_kept, others_have_none, row_names}
use Rattle.program_rows.proofs.laws.row_has_the_reducers.Goals as goal

pub returns-clause-names : goal.returns-clause-names
returns-clause-names c = row_names

pub returns-clause-towers : goal.returns-clause-towers
returns-clause-towers c = first_lines_kept

pub returns-clause-others : goal.returns-clause-others
returns-clause-others c = others_have_none
