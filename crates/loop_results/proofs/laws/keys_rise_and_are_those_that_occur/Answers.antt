use Rattle.loop_results.proofs.KeyLemmas.{keys_in_rise, keys_occur}
use Rattle.loop_results.proofs.laws.keys_rise_and_are_those_that_occur.Goals as goal

pub returns : goal.returns
returns g c = record { rise = keys_in_rise; occur = keys_occur }
