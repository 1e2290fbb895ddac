use Rattle.column_input.proofs.HeaderLemmas.{no_difference, same_alike}
use Rattle.column_input.proofs.laws.differ_nowhere_where_equal.Goals as goal

pub returns : goal.returns
returns c names fields = (λ e. no_difference 1 names fields e, λ e. rw e (same_alike 1 fields))
