use Rattle.std.proofs.Common.{◌≡◌, length}
use Rattle.part_deque.specs.Ends.{SameOwner}
use Rattle.thread_tests.proofs.part_deques.pop_all.Given as goal

abbrev pub invariant-loop-part : goal.invariant-loop-part
invariant-loop-part l = SameOwner l.initial.owner l.owner × (l.owner.pushed ≡ l.initial.owner.pushed)

abbrev pub decreases-loop-part : goal.decreases-loop-part
decreases-loop-part l = length l.owner.kept
