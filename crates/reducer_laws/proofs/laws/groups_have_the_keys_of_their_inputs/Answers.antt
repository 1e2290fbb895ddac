use Rattle.reducer_laws.proofs.KeyLemmas.{same_keys, each_stands}
use Rattle.reducer_laws.proofs.laws.groups_have_the_keys_of_their_inputs.Goals as goal

pub returns : goal.returns
returns g c = record { keys = λ r. same_keys (g.R.Reducer.stands r); states = λ r. each_stands (g.R.Reducer.stands r) }
