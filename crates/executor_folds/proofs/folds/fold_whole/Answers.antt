use Rattle.std.proofs.Common.{◌≡◌, arith, rules}
use Rattle.std.specs.Prelude.{min}
use Rattle.splittable.specs.Places.{item_count}
use Rattle.fold_seq.specs.Answers.{stop_place_of}
use Rattle.executor_folds.proofs.WholeLemmas.{whole_is_lawful, from_one, none_stops}
use Rattle.executor_folds.proofs.folds.fold_whole.Goals as goal

pub returns-clause-tally : goal.returns-clause-tally
returns-clause-tally g c = λ base workers.
    let lens = g.J.Job.lens c.args.job.now in
    let answer = c.in_ok-answer.answer in
    let lies = g.met.J.Job.stop_lies c.args.job.now 1 (item_count lens) answer (omega arith) c.in_ok-answer.ensures.stands in
    let ran : c.min-ran.result ≡ min (item_count lens) 1 = search rules in
    whole_is_lawful lens workers c.min-ran.result (stop_place_of answer) (from_one (item_count lens) answer lies)
    (λ none. none_stops (g.J.Job.is_unit c.args.job.now) answer (c.in_ok-answer.ensures.empty none)) ran
