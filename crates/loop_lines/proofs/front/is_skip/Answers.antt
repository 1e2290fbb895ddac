use Rattle.std.proofs.Common.{◌≡◌, [], codes}
use Rattle.loop_lines.specs.Skips.{IsFaultSkip}
use Rattle.loop_lines.proofs.Skips.{both_decide}
use Rattle.loop_lines.proofs.front.is_skip.Goals as goal

pub returns-then-is_on : goal.returns-then-is_on
returns-then-is_on c =
    both_decide c.is_fault_skip.result (c.args.word.now ≡ codes "on") (IsFaultSkip c.args.tokens.now []) (rw c.if-is_on.true at c.is_on.ensures) c.is_fault_skip.ensures
