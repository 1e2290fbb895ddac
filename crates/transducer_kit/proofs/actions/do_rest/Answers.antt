use Rattle.std.proofs.Common.{◌≡◌, refl, subst, ◌∙◌}
use Rattle.loop_meaning.specs.declared.steps.BodyRun.{BodyRun}
use Rattle.loop_meaning.specs.declared.steps.Flow.TheVariants as flow
use Rattle.loop_meaning.specs.Statements.{block_run}
use Rattle.chain_stages.specs.Elements.{run_of}
use Rattle.chain_stages.specs.Stages.{after_run}
use Rattle.transducer_kit.specs.Steps.{Leaves}
use Rattle.transducer_kit.proofs.actions.do_rest.Goals as goal

-- the run began where the element stood
pub returns-clause-leaves : goal.returns-clause-leaves
returns-clause-leaves c =
    let xs = c.args.statements.now in
    let e = c.args.element.now in
    let ran : c.run_block.new.run ≡ block_run xs (run_of e) =
    c.in_ok-run_block.ensures ∙ (λ i. block_run xs (record { names = c.replace-names.ensures.value i; emitted = c.replace-emitted.ensures.value i; flow = flow.Going })) in
    subst (λ (run : BodyRun). Leaves (after_run run e) c.after_run.result c.after_run.new.element) ran (c.after_run.ensures.leaves e refl refl)
