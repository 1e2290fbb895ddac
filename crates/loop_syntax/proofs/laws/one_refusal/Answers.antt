use Rattle.loop_syntax.proofs.TextLaws.{one_refusal}
use Rattle.loop_syntax.proofs.laws.one_refusal.Goals as goal

pub returns : goal.returns
returns c = one_refusal
