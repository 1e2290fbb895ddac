use Rattle.thread_tests.proofs.stop_words.+fn-report_beside-join+arg2+fn-report_beside-join+arg3+report_beside.Given as goal

abbrev pub decreases-report_beside : goal.decreases-report_beside
decreases-report_beside g l = l.levels

abbrev pub decreases-join+arg2 : goal.decreases-join+arg2
decreases-join+arg2 g l = l.fewer

abbrev pub decreases-join+arg3 : goal.decreases-join+arg3
decreases-join+arg3 g l = l.fewer
