use Rattle.std.proofs.Common.{sym}
use Rattle.reducer_laws.proofs.EndLemmas.{last_of-push}
use Rattle.reducer_laws.proofs.ends.LastOfReducer.next.Goals as goal

pub returns-clause-stands : goal.returns-clause-stands
returns-clause-stands g c = λ xs h. sym (last_of-push xs c.args.input)
