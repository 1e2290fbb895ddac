use Rattle.std.proofs.Common.{subst}
use Rattle.loop_syntax.specs.Programs.{IsProgram}
use Rattle.loop_syntax.proofs.WellFormedTexts.{spelled_well_formed}
use Rattle.loop_syntax.proofs.program.Program.tree.Goals as goal

pub returns-clause-spelled : goal.returns-clause-spelled
returns-clause-spelled c = subst IsProgram c.self.view_is c.self.invariant

pub returns-clause-well_formed : goal.returns-clause-well_formed
returns-clause-well_formed c = spelled_well_formed _ (subst IsProgram c.self.view_is c.self.invariant)
