use Rattle.std.proofs.Common.{◌∙◌}
use Rattle.legality_check.proofs.Whole.{tried_is_first}
use Rattle.legality_check.proofs.tree.check_tree.Goals as goal

pub returns : goal.returns
returns c = λ text spelled ne. c.try_rules.ensures ne ∙ tried_is_first text c.args.program.now spelled
