use Rattle.std.proofs.Common.{rules}
use Rattle.loop_grammar.specs.LineForms.{SpellsRange}
use Rattle.loop_heads.specs.Heads.{Ended, SpellsFurther}
use Rattle.loop_heads.proofs.Steps.{failed, seen}
use Rattle.loop_heads.proofs.Further.{further_comma, further_name, further_in, further_range, further_is, further_spelled}
use Rattle.loop_heads.proofs.heads.further.Goals as goal

pub returns-in_default-clause-only : goal.returns-in_default-clause-only
returns-in_default-clause-only c = further_comma c.args.tokens.now c.in_default.ensures

pub returns-in_default-eat_name-clause-only : goal.returns-in_default-eat_name-clause-only
returns-in_default-eat_name-clause-only c = further_name c.args.tokens.now c.in-Some.rest.now c.in-Some.ensures c.in_default-eat_name.ensures

pub returns-in_default-eat_word-clause-only : goal.returns-in_default-eat_word-clause-only
returns-in_default-eat_word-clause-only c =
    further_in c.in-Some-eat_name.piece.now c.args.tokens.now c.in-Some.rest.now c.in-Some-eat_name.rest.now c.in-Some.ensures c.in-Some-eat_name.ensures c.in_default-eat_word.ensures

pub returns-in_err-range-clause-only : goal.returns-in_err-range-clause-only
returns-in_err-range-clause-only c =
    let ws = c.in-Some-eat_word.rest.now in
    failed (Ended SpellsRange ws) (Ended SpellsFurther c.args.tokens.now) seen seen c.in_err-range.field-0.0 c.from_residual.result
    (further_range c.in-Some-eat_name.piece.now c.args.tokens.now c.in-Some.rest.now c.in-Some-eat_name.rest.now ws c.in-Some.ensures c.in-Some-eat_name.ensures c.in-Some-eat_word.ensures)
    c.in_err-range.ensures.only (search rules)

pub returns-clause-spelled : goal.returns-clause-spelled
returns-clause-spelled c =
    further_spelled c.in-Some-eat_name.piece.now c.in_ok-name.name c.args.tokens.now c.in-Some.rest.now c.in-Some-eat_name.rest.now c.in-Some-eat_word.rest.now
    (c.in_ok-range.range, c.in_ok-range.wide, c.in_ok-range.rest.now) c.in-Some.ensures c.in-Some-eat_name.ensures c.in-Some-eat_word.ensures c.in_ok-name.ensures c.in_ok-range.ensures.spelled

pub returns-clause-only : goal.returns-clause-only
returns-clause-only c =
    further_is c.in-Some-eat_name.piece.now c.in_ok-name.name c.args.tokens.now c.in-Some.rest.now c.in-Some-eat_name.rest.now c.in-Some-eat_word.rest.now
    (c.in_ok-range.range, c.in_ok-range.wide, c.in_ok-range.rest.now) c.in-Some.ensures c.in-Some-eat_name.ensures c.in-Some-eat_word.ensures c.in_ok-name.ensures c.in_ok-range.ensures.only
