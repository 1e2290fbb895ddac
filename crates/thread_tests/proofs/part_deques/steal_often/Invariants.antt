use Rattle.part_deque.specs.Ends.{SameThief}
use Rattle.thread_tests.proofs.part_deques.steal_often.Given as goal

abbrev pub invariant-loop : goal.invariant-loop
invariant-loop l = SameThief l.initial.thief l.thief
