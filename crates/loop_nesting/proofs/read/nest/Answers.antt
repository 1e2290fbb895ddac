use Rattle.std.proofs.Common.{rules, refl, ap, ◌∙◌}
use Rattle.std.proofs.lemmas.Result.{IfOk-from_err}
use Rattle.loop_nesting.specs.Reading.{finish}
use Rattle.loop_nesting.proofs.Answers.{gives_program, gives_refusal, passed_on}
use Rattle.loop_nesting.proofs.read.nest.Goals as goal

pub returns-in_err-run-clause-program : goal.returns-in_err-run-clause-program
returns-in_err-run-clause-program c = IfOk-from_err c.from_residual.result _ c.from_residual.ensures.0

pub returns-in_err-run-clause-refusal : goal.returns-in_err-run-clause-refusal
returns-in_err-run-clause-refusal c = passed_on c.args.lines.items c.args.end c.in_err-run.field-0.0 c.from_residual.result _ refl c.in_err-run.ensures (search rules)

pub returns-clause-program : goal.returns-clause-program
returns-clause-program c = gives_program c.args.lines.items c.args.end c.finish.result (c.finish.ensures ∙ ap (finish c.args.end) (c.in_ok-run.ensures (λ e. cc)))

pub returns-clause-refusal : goal.returns-clause-refusal
returns-clause-refusal c = gives_refusal c.args.lines.items c.args.end c.finish.result (c.finish.ensures ∙ ap (finish c.args.end) (c.in_ok-run.ensures (λ e. cc)))
