use Rattle.loop_grammar.specs.Texts.{TokensSay}
use Rattle.loop_lines.proofs.Verdicts.{not_read, settled}
use Rattle.loop_lines.proofs.verdict.whole_line.Goals as goal

pub returns-then-is_end : goal.returns-then-is_end
returns-then-is_end c = let e = rw c.if-is_end.true at c.is_end.ensures in rw e TokensSay.none

pub returns-in-Ok : goal.returns-in-Ok
returns-in-Ok c = settled c.own_refusal-refusal.result c.in-Ok.found c.in-Ok.wide c.args.tokens.now c.args.number c.unless.result c.unless.ensures c.own_refusal-refusal.ensures c.requires c.in-Ok.ensures

pub returns-in-Err : goal.returns-in-Err
returns-in-Err c = not_read c.in-Err.error c.args.tokens.now c.args.number c.refusal_of.result c.refusal_of.ensures c.requires (rw c.if-is_end.false at c.is_end.ensures) c.in-Err.ensures
