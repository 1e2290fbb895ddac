use Rattle.chain_stages.proofs.ChainLemmas.{chain_alone, chain_append}
use Rattle.chain_stages.specs.Stages.{alone}
use Rattle.chain_stages.proofs.laws.a_chain_goes_stage_by_stage.Goals as goal

pub returns-clause-one : goal.returns-clause-one
returns-clause-one c = chain_alone

pub returns-clause-two : goal.returns-clause-two
returns-clause-two c = λ front back e. chain_append front back (alone e)
