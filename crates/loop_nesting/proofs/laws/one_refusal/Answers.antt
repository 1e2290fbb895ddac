use Rattle.loop_nesting.proofs.Answers.{one_refusal}
use Rattle.loop_nesting.proofs.laws.one_refusal.Goals as goal

pub returns : goal.returns
returns c = one_refusal
