use Rattle.floop_run.proofs.AnswerLaws.{one_answer}
use Rattle.floop_run.proofs.laws.one_answer.Goals as goal

pub returns : goal.returns
returns c = one_answer
