use Rattle.loop_tokens.proofs.LimitLemmas.{counted_more}
use Rattle.loop_tokens.proofs.limits.most_open.Goals as goal

pub loop-token-preserved : goal.loop-token-preserved
loop-token-preserved c = counted_more c.args.tokens.now c.loop-token.token-index c.loop-token.left c.loop-token.most c.token-item.result c.open_behind-left.result c.max-most.result
    c.loop-token.invariant c.loop-token-test.true c.token-item.is c.open_behind-left.ensures c.max-most.ensures
