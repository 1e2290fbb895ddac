use Rattle.std.proofs.Common.{◌≡◌, ap, ◌∙◌}
use Rattle.loop_grammar.specs.declared.tree.ProgramTree.{ProgramTree}
use Rattle.loop_meaning.specs.declared.steps.BodyRun.{BodyRun}
use Rattle.loop_meaning.specs.Stores.{keeping, stored_names}
use Rattle.loop_meaning.specs.Steps.{end_of}
use Rattle.loop_meaning.proofs.BehindLemmas.{step_run}
use Rattle.loop_meaning.proofs.steps.step_plain.Goals as goal

pub returns-clause-end : goal.returns-clause-end
returns-clause-end c =
    let it = step_run c.tree-tree.result.now c.args.program.now c.args.store.now c.args.item c.args.place c.as_slice.result.now c.in_ok-names.names c.args.emitted.now c.replace.result c.inner_runs.new.run c.tree-tree.ensures.parts c.as_slice.ensures c.in_ok-names.ensures c.replace.ensures.value c.in_ok-inner_runs.ensures in
    c.end_of.ensures ∙ ap (λ (r : BodyRun). end_of r.flow) it

pub returns-clause-store : goal.returns-clause-store
returns-clause-store c =
    let it = step_run c.tree-tree.result.now c.args.program.now c.args.store.now c.args.item c.args.place c.as_slice.result.now c.in_ok-names.names c.args.emitted.now c.replace.result c.inner_runs.new.run c.tree-tree.ensures.parts c.as_slice.ensures c.in_ok-names.ensures c.replace.ensures.value c.in_ok-inner_runs.ensures in
    c.in_ok-keep_stored.ensures
    ∙ ap (λ (tree : ProgramTree). keeping (stored_names tree) c.args.store.now c.inner_runs.new.run.names) c.tree-tree.ensures.parts
    ∙ ap (λ (r : BodyRun). keeping (stored_names c.args.program.now) c.args.store.now r.names) it

pub returns-clause-emitted : goal.returns-clause-emitted
returns-clause-emitted c =
    let it = step_run c.tree-tree.result.now c.args.program.now c.args.store.now c.args.item c.args.place c.as_slice.result.now c.in_ok-names.names c.args.emitted.now c.replace.result c.inner_runs.new.run c.tree-tree.ensures.parts c.as_slice.ensures c.in_ok-names.ensures c.replace.ensures.value c.in_ok-inner_runs.ensures in
    ap (λ (r : BodyRun). r.emitted) it
