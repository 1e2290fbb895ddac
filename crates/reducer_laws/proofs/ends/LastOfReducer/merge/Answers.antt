use Rattle.std.proofs.Common.{sym}
use Rattle.reducer_laws.proofs.EndLemmas.{last_of-append}
use Rattle.reducer_laws.proofs.ends.LastOfReducer.merge.Goals as goal

pub returns-clause-stands : goal.returns-clause-stands
returns-clause-stands g c = λ xs ys left right. rw (c.or.ensures, left, right) (sym (last_of-append xs ys))
