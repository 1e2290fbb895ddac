use Rattle.loop_lines.proofs.Verdicts.{says_of, refuses_of}
use Rattle.loop_lines.proofs.verdict.read_line.Goals as goal

pub returns-clause-says : goal.returns-clause-says
returns-clause-says c = says_of c.verdict.result c.args.line.now.tokens.items c.args.line.now.whole c.args.number (rw c.as_slice.ensures.value at c.verdict.ensures)

pub returns-clause-refuses : goal.returns-clause-refuses
returns-clause-refuses c = refuses_of c.verdict.result c.args.line.now.tokens.items c.args.line.now.whole c.args.number (rw c.as_slice.ensures.value at c.verdict.ensures)
