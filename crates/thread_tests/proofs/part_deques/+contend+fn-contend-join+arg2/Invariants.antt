use Rattle.thread_tests.proofs.part_deques.+contend+fn-contend-join+arg2.Given as goal

abbrev pub decreases-contend : goal.decreases-contend
decreases-contend g l = l.thieves

abbrev pub decreases-join+arg2 : goal.decreases-join+arg2
decreases-join+arg2 g l = l.fewer
