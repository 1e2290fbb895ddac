use Rattle.chain_stages.proofs.ChainLemmas.{chain_by_one}
use Rattle.chain_stages.proofs.laws.a_chain_goes_element_by_element.Goals as goal

pub returns : goal.returns
returns c = chain_by_one
