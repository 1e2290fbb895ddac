use Rattle.chain_stages.proofs.ChainLemmas.{chain_two, chain_end}
use Rattle.chain_stages.proofs.laws.a_chain_takes_two_lists.Goals as goal

pub returns-clause-both : goal.returns-clause-both
returns-clause-both c = chain_two

pub returns-clause-end : goal.returns-clause-end
returns-clause-end c = chain_end
