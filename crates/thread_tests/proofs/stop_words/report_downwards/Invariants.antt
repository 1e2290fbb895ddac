use Rattle.thread_tests.specs.Seats.{SameSeat}
use Rattle.thread_tests.proofs.stop_words.report_downwards.Given as goal

abbrev pub invariant-loop-back : goal.invariant-loop-back
invariant-loop-back l = SameSeat l.initial.seat l.seat
