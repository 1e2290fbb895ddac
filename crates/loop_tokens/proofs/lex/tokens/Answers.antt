use Rattle.std.proofs.Common.{sym}
use Rattle.loop_tokens.proofs.Holding.{ahead_start, ahead_token, ahead_end, ahead_stuck, shorter}
use Rattle.loop_tokens.proofs.lex.tokens.Goals as goal

pub returns-in_default : goal.returns-in_default
returns-in_default c = ahead_stuck c.args.line.now c.loop-rest.tokens.items c.loop-rest.rest.now c.loop-rest.invariant.ahead (sym c.loop-rest-test.ensures) c.in_default.ensures

pub loop-rest-smaller : goal.loop-rest-smaller
loop-rest-smaller c = shorter c.loop-rest.rest.now c.in-Some.token c.in-Some.behind.now c.skip_blanks-rest-in-loop-rest.result.now c.in-Some.ensures c.skip_blanks-rest-in-loop-rest.ensures

pub loop-rest-init : goal.loop-rest-init
loop-rest-init c = record {
  text = c.skip_blanks-rest.utf8;
  ahead = ahead_start c.args.line.now c.new-tokens.result.items c.skip_blanks-rest.result.now c.new-tokens.ensures.items c.skip_blanks-rest.ensures;
}

pub loop-rest-preserved : goal.loop-rest-preserved
loop-rest-preserved c = record {
  text = c.skip_blanks-rest-in-loop-rest.utf8;
  ahead = ahead_token c.args.line.now c.loop-rest.tokens.items c.push.new.self.items c.loop-rest.rest.now c.in-Some.behind.now c.skip_blanks-rest-in-loop-rest.result.now c.in-Some.token
      c.loop-rest.invariant.ahead c.in-Some.ensures c.in_ok-push.ensures.items c.skip_blanks-rest-in-loop-rest.ensures;
}

pub returns : goal.returns
returns c = ahead_end c.args.line.now c.loop-rest.tokens.items c.loop-rest.rest.now c.loop-rest.invariant.ahead (sym c.loop-rest-test.ensures)
