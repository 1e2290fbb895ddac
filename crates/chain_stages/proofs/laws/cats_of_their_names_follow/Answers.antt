use Rattle.chain_stages.proofs.CatLemmas.{names_follow}
use Rattle.chain_stages.proofs.laws.cats_of_their_names_follow.Goals as goal

pub returns : goal.returns
returns c = names_follow
