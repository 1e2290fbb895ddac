use Rattle.floop_run.proofs.AnswerLaws.{some_answer}
use Rattle.floop_run.proofs.laws.some_answer.Goals as goal

pub returns : goal.returns
returns c = some_answer
