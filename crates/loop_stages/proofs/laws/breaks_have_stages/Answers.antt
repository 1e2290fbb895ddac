use Rattle.loop_stages.proofs.StageLemmas as lemmas
use Rattle.loop_stages.proofs.laws.breaks_have_stages.Goals as goal

pub returns : goal.returns
returns c = lemmas.breaks_have_stages
