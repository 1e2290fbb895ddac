use Rattle.loop_tokens.proofs.OneLexing.{one_lexing, some_tokens}
use Rattle.loop_tokens.proofs.laws.one_lexing.Goals as goal

pub returns : goal.returns
returns c = record { at_most = one_lexing; at_least = some_tokens }
