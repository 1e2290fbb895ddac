use Rattle.fitting_inputs.proofs.SiteLemmas.{lines_are_sites}
use Rattle.fitting_inputs.proofs.laws.reduce_lines_are_sites.Goals as goal

pub returns : goal.returns
returns c = lines_are_sites
