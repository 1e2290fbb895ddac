use Rattle.loop_stages.proofs.SplitLemmas as lemmas
use Rattle.loop_stages.proofs.laws.split_statement_begins_the_rest.Goals as goal

pub returns-clause-there : goal.returns-clause-there
returns-clause-there c = lemmas.splits_there

pub returns-clause-nowhere : goal.returns-clause-nowhere
returns-clause-nowhere c = lemmas.splits_nowhere
