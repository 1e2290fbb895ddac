use Rattle.std.proofs.Math.Logic.{∥∥₁_map}
use Rattle.loop_writer.proofs.WrittenBack.{written_is_spelled}
use Rattle.loop_syntax.proofs.write.write_program.Goals as goal

pub returns-clause-spelled : goal.returns-clause-spelled
returns-clause-spelled c = ∥∥₁_map c.tree.ensures.spelled (λ s. written_is_spelled s.0 c.args.program.now s.2)
