use Rattle.chain_tests.proofs.PipelineLemmas.{lists_given, lists_taken}
use Rattle.chain_tests.proofs.pipelines.fold_lists.Goals as goal

pub step_all-requires : goal.step_all-requires
step_all-requires g c =
    rw c.new-pipeline.ensures.make
    (lists_taken (goal.F-pre g c.args.number) (goal.F-post g c.args.number) c.requires.number c.requires.is_number ⊥
    c.args.lists.now c.args.state.now c.requires.empty c.requires.few)

pub returns-clause-end : goal.returns-clause-end
returns-clause-end g c = λ ne.
    let given = rw c.new-pipeline.ensures.make at c.step_all.ensures in
    (lists_given (goal.F-pre g c.args.number) (goal.F-post g c.args.number) c.requires.number c.requires.is_number ⊥
    c.args.lists.now c.step_all.result c.args.state.now c.step_all.new.state c.requires.empty given ne).0

pub returns-clause-numbers : goal.returns-clause-numbers
returns-clause-numbers g c = λ ne.
    let given = rw c.new-pipeline.ensures.make at c.step_all.ensures in
    (lists_given (goal.F-pre g c.args.number) (goal.F-post g c.args.number) c.requires.number c.requires.is_number ⊥
    c.args.lists.now c.step_all.result c.args.state.now c.step_all.new.state c.requires.empty given ne).1
