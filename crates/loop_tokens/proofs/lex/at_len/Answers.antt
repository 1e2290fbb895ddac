use Rattle.loop_tokens.proofs.AtWords.{at_init, at_keep, at_reduce, at_none}
use Rattle.loop_tokens.proofs.lex.at_len.Goals as goal

pub returns-then-begins : goal.returns-then-begins
returns-then-begins c = at_init c.args.bytes.now _ c.if-begins.ensures

pub returns-then-begins-2 : goal.returns-then-begins-2
returns-then-begins-2 c = at_keep c.args.bytes.now _ c.if-begins-2.ensures

pub returns-then-begins-3 : goal.returns-then-begins-3
returns-then-begins-3 c = at_reduce c.args.bytes.now _ c.if-begins-3.ensures

pub returns-else-begins-3 : goal.returns-else-begins-3
returns-else-begins-3 c = at_none c.args.bytes.now c.if-begins.ensures c.if-begins-2.ensures c.if-begins-3.ensures
