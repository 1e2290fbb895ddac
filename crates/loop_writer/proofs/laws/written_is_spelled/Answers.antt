use Rattle.loop_writer.proofs.WrittenBack.{written_is_spelled}
use Rattle.loop_writer.proofs.laws.written_is_spelled.Goals as goal

pub returns : goal.returns
returns c = written_is_spelled
