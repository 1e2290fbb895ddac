use Rattle.chain_stages.proofs.FewLemmas.{few_leave}
use Rattle.chain_stages.proofs.laws.few_pairs_leave_a_chain.Goals as goal

pub returns : goal.returns
returns c = few_leave
