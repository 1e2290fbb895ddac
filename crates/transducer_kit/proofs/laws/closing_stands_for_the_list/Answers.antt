use Rattle.transducer_kit.proofs.Closing.{closed_feeds, closed_or_failed, closed_takes}
use Rattle.transducer_kit.proofs.laws.closing_stands_for_the_list.Goals as goal

pub returns-clause-stands : goal.returns-clause-stands
returns-clause-stands g c = λ w. closed_or_failed (g.R.Reducer.stands w.reducer) (g.R.Reducer.is_free w.reducer)

pub returns-clause-free : goal.returns-clause-free
returns-clause-free g c = λ w. closed_feeds (g.R.Reducer.stands w.reducer) (g.R.Reducer.is_free w.reducer)

pub returns-clause-takes : goal.returns-clause-takes
returns-clause-takes g c = λ w. closed_takes (g.R.Reducer.stands w.reducer) (g.R.Reducer.is_free w.reducer) (g.R.Reducer.accepts w.reducer)
