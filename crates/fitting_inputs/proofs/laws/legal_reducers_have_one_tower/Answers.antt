use Rattle.fitting_inputs.proofs.ReducerFacts.{legal_starts_fit, reduce_lines_are_few, reducers_agree}
use Rattle.fitting_inputs.proofs.laws.legal_reducers_have_one_tower.Goals as goal

pub returns-clause-towers : goal.returns-clause-towers
returns-clause-towers c = reducers_agree

pub returns-clause-starts : goal.returns-clause-starts
returns-clause-starts c = legal_starts_fit c.legal_inputs_fit.ensures

pub returns-clause-few : goal.returns-clause-few
returns-clause-few c = reduce_lines_are_few
