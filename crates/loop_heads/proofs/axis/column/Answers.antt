use Rattle.std.proofs.Common.{refl}
use Rattle.loop_heads.proofs.Axes.{column_opens, column_names, column_closes, column_spelled, column_is}
use Rattle.loop_heads.proofs.axis.column.Goals as goal

pub returns-in_default-clause-only : goal.returns-in_default-clause-only
returns-in_default-clause-only c = column_opens c.args.tokens.now c.in_default.ensures

pub returns-in_default-eat_text-clause-only : goal.returns-in_default-eat_text-clause-only
returns-in_default-eat_text-clause-only c = column_names c.args.tokens.now c.in-Some.rest.now c.in-Some.ensures c.in_default-eat_text.ensures

pub returns-in_default-eat-clause-only : goal.returns-in_default-eat-clause-only
returns-in_default-eat-clause-only c =
    column_closes c.in-Some-eat_text.raw.now c.args.tokens.now c.in-Some.rest.now c.in-Some-eat_text.rest.now c.in-Some.ensures c.in-Some-eat_text.ensures c.in_default-eat.ensures

pub returns-clause-spelled : goal.returns-clause-spelled
returns-clause-spelled c =
    column_spelled c.in-Some-eat_text.raw.now c.args.tokens.now c.in-Some.rest.now c.in-Some-eat_text.rest.now c.in-Some-eat.rest.now _ c.in-Some.ensures c.in-Some-eat_text.ensures c.in-Some-eat.ensures (rw c.in_ok-text.ensures refl)

pub returns-clause-only : goal.returns-clause-only
returns-clause-only c =
    column_is c.in-Some-eat_text.raw.now c.args.tokens.now c.in-Some.rest.now c.in-Some-eat_text.rest.now c.in-Some-eat.rest.now _ c.in-Some.ensures c.in-Some-eat_text.ensures c.in-Some-eat.ensures (rw c.in_ok-text.ensures refl)
