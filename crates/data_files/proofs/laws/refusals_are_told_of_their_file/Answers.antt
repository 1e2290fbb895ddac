use Rattle.data_files.proofs.TableLemmas.{told_of_its_file}
use Rattle.data_files.proofs.laws.refusals_are_told_of_their_file.Goals as goal

pub returns : goal.returns
returns c names files held why short e = told_of_its_file names files held why short e
