use Rattle.chain_tests.proofs.PipelineLemmas.{squares_given, squares_taken}
use Rattle.chain_tests.proofs.pipelines.fold_squares.Goals as goal

pub step_all-requires : goal.step_all-requires
step_all-requires g c =
    rw (c.new-pipeline.ensures.test, c.new-pipeline.ensures.inner, c.new-squares.ensures.make, c.new-squares.ensures.inner, c.new-ends.ensures.test, c.new-ends.ensures.line, c.new-ends.ensures.inner)
    (squares_taken (goal.P-pre g c.args.over) (goal.P-post g c.args.over) (goal.F-pre g c.args.square) (goal.F-post g c.args.square) (goal.Q-pre g c.args.until) (goal.Q-post g c.args.until)
    c.requires.over c.requires.square c.requires.until c.requires.is_over c.requires.is_square c.requires.is_until
    c.args.numbers.now c.args.sum.now c.requires.empty c.requires.few)

pub returns-clause-end : goal.returns-clause-end
returns-clause-end g c =
    let given = rw (c.new-pipeline.ensures.test, c.new-pipeline.ensures.inner, c.new-squares.ensures.make, c.new-squares.ensures.inner, c.new-ends.ensures.test, c.new-ends.ensures.line, c.new-ends.ensures.inner) at c.step_all.ensures in
    (squares_given (goal.P-pre g c.args.over) (goal.P-post g c.args.over) (goal.F-pre g c.args.square) (goal.F-post g c.args.square) (goal.Q-pre g c.args.until) (goal.Q-post g c.args.until)
    c.requires.over c.requires.square c.requires.until c.requires.is_over c.requires.is_square c.requires.is_until
    c.args.numbers.now c.step_all.result c.args.sum.now c.step_all.new.state c.requires.empty given).0

pub returns-clause-total : goal.returns-clause-total
returns-clause-total g c =
    let given = rw (c.new-pipeline.ensures.test, c.new-pipeline.ensures.inner, c.new-squares.ensures.make, c.new-squares.ensures.inner, c.new-ends.ensures.test, c.new-ends.ensures.line, c.new-ends.ensures.inner) at c.step_all.ensures in
    (squares_given (goal.P-pre g c.args.over) (goal.P-post g c.args.over) (goal.F-pre g c.args.square) (goal.F-post g c.args.square) (goal.Q-pre g c.args.until) (goal.Q-post g c.args.until)
    c.requires.over c.requires.square c.requires.until c.requires.is_over c.requires.is_square c.requires.is_until
    c.args.numbers.now c.step_all.result c.args.sum.now c.step_all.new.state c.requires.empty given).1
