use Rattle.std.proofs.Common.{[]}
use Rattle.loop_lines.proofs.Skips.{end_decides}
use Rattle.loop_lines.proofs.front.is_fault_skip.Goals as goal

pub returns-in-Some : goal.returns-in-Some
returns-in-Some c = end_decides c.is_end.result c.args.tokens.now c.in-Some.rest.now c.in-Some.ensures c.is_end.ensures

pub returns-in-None : goal.returns-in-None
returns-in-None c = c.in-None.ensures []
