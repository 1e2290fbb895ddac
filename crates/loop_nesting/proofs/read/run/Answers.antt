use Rattle.std.proofs.Common.{rules, refl, sym, ◌∙◌}
use Rattle.loop_nesting.proofs.Answers.{step_on, refused_on, all_read, shorter, empty}
use Rattle.loop_nesting.proofs.read.run.Goals as goal

pub returns-in_err-stage : goal.returns-in_err-stage
returns-in_err-stage c =
    refused_on c.loop-line.stage c.in-Some.line c.pop_front.new.self.items c.loop-line.lines.items c.args.lines.items c.in_err-stage.field-0.0 c.from_residual.result _ c.in-Some.ensures.items refl
    c.in_err-stage.ensures c.loop-line.invariant (search rules)

pub loop-line-smaller : goal.loop-line-smaller
loop-line-smaller c = shorter c.in-Some.line c.pop_front.new.self.items c.loop-line.lines.items c.in-Some.ensures.items

pub loop-line-preserved : goal.loop-line-preserved
loop-line-preserved c =
    step_on c.loop-line.stage c.in_ok-stage.stage c.in-Some.line c.pop_front.new.self.items c.loop-line.lines.items c.in-Some.ensures.items (sym (c.in_ok-stage.ensures (λ e. cc)))
    ∙ c.loop-line.invariant

pub returns : goal.returns
returns c = λ _. all_read c.loop-line.stage c.loop-line.lines.items (empty c.loop-line.lines.items c.pop_front.new.self.items c.in_default.ensures.items c.in_default.ensures.rest) ∙ c.loop-line.invariant
