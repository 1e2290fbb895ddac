use Rattle.std.proofs.Common.{sym, ◌∙◌}
use Rattle.loop_results.proofs.ExtremeLemmas.{right_wins, left_stays}
use Rattle.reducer_laws.proofs.extremes.BestReducer.merge.Goals as goal

pub returns-then-beats-clause-stands : goal.returns-then-beats-clause-stands
returns-then-beats-clause-stands g c = λ xs ys left right. right_wins g.met.P.Preference.is_order xs ys c.in-Some-Some.left c.in-Some-Some.right (rw c.in-Some-Some.is-0 at left) (rw c.in-Some-Some.is-1 at right) (sym c.beats.ensures ∙ c.if-beats.true)

pub returns-else-beats-clause-stands : goal.returns-else-beats-clause-stands
returns-else-beats-clause-stands g c = λ xs ys left right. left_stays g.met.P.Preference.is_order xs ys c.in-Some-Some.left c.in-Some-Some.right (rw c.in-Some-Some.is-0 at left) (rw c.in-Some-Some.is-1 at right) (sym c.beats.ensures ∙ c.if-beats.false)
