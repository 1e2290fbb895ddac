use Rattle.thread_tests.proofs.stop_words.+split_down.Given as goal

abbrev pub decreases-split_down : goal.decreases-split_down
decreases-split_down l = l.seat.now.weight
