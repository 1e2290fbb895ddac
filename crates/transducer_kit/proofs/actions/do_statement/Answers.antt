use Rattle.std.proofs.Common.{◌≡◌, refl, sym, subst, ◌∙◌}
use Rattle.loop_meaning.specs.declared.steps.BodyRun.{BodyRun}
use Rattle.loop_meaning.specs.declared.steps.Flow.TheVariants as flow
use Rattle.loop_meaning.specs.Statements.{statement_run}
use Rattle.chain_stages.specs.Elements.{run_of, without_pairs}
use Rattle.chain_stages.specs.Stages.{after_run}
use Rattle.transducer_kit.specs.Steps.{Leaves}
use Rattle.transducer_kit.proofs.ActionLemmas.{bare_run, block_done}
use Rattle.transducer_kit.proofs.actions.do_statement.Goals as goal

-- a statement done with nothing emitted before it, and the pairs that were there
pub returns-clause-leaves : goal.returns-clause-leaves
returns-clause-leaves c =
    let x = c.args.statement.now in
    let e = c.args.element.now in
    let ran : c.run_statement.new.run ≡ statement_run x (bare_run e) =
    c.in_ok-run_statement.ensures ∙ (λ i. statement_run x (record { names = c.replace-names.ensures.value i; emitted = c.new-2.ensures i; flow = flow.Going })) in
    let left : record c.run_statement.new.run { emitted = c.replace.result } ≡ without_pairs e (statement_run x (run_of e)) =
    (λ i. record (ran i) { emitted = c.replace.ensures.value i }) ∙ sym (block_done x e) in
    subst (λ (run : BodyRun). Leaves (after_run run e) c.after_run.result c.after_run.new.element) left (c.after_run.ensures.leaves e refl refl)
