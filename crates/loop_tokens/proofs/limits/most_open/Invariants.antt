use Rattle.loop_tokens.proofs.LimitLemmas.{Counted}
use Rattle.loop_tokens.proofs.limits.most_open.Given as goal

abbrev pub invariant-loop-token : goal.invariant-loop-token
invariant-loop-token l = Counted l.tokens l.token-index l.left l.most
