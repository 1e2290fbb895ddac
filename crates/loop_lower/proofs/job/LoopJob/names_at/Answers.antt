use Rattle.std.proofs.Common.{ap, ◌∙◌}
use Rattle.std.proofs.lemmas.Result.{IfOk-weaker}
use Rattle.loop_data.specs.declared.head.HeadLine.{HeadLine}
use Rattle.loop_grammar.specs.declared.tree.ProgramTree.{ProgramTree}
use Rattle.loop_lower.proofs.ItemLemmas.{same_names}
use Rattle.loop_lower.proofs.job.LoopJob.names_at.Goals as goal

-- the store and the pattern are the program's
pub returns : goal.returns
returns c =
    let job = c.args.self.now in
    let pattern = c.as_slice-pattern.ensures ∙ ap (λ (h : HeadLine). h.names) c.head.ensures ∙ ap (λ (t : ProgramTree). t.head.names) c.program.ensures.same in
    IfOk-weaker c.names_of.result _ _
    (λ names is. same_names job.program.now job.start names c.as_slice-pattern.result.now c.args.item c.args.place job.start_is pattern is)
    c.names_of.ensures
