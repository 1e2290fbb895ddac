use Rattle.reducer_laws.specs.Groups.{GroupsTogether}
use Rattle.reducer_laws.proofs.grouped.merge_trees.Given as goal

abbrev pub invariant-loop-key : goal.invariant-loop-key
invariant-loop-key g l = GroupsTogether (g.R.Reducer.stands l.inner) l.fn.left.entries l.yielded l.whole.entries
