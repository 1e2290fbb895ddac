use Rattle.loop_tokens.specs.Literals.{number_of}
use Rattle.loop_exprs.proofs.Steps.{fits_negative, fits_positive}
use Rattle.loop_grammar.specs.LineForms.{SpellsLiteral as s}
use Rattle.loop_heads.proofs.Patterns.{truth_spelled}
use Rattle.loop_heads.proofs.literal.read_literal.Goals as goal

pub returns-in-Number-clause-spelled : goal.returns-in-Number-clause-spelled
returns-in-Number-clause-spelled c = rw (c.in-Some.ensures, c.in-Number.is, fits_positive (number_of c.in-Number.digits) _ c.positive_value-n.ensures.value, c.positive_value-n.ensures.wide) s.number

pub returns-in_ok-text-in-Text-clause-spelled : goal.returns-in_ok-text-in-Text-clause-spelled
returns-in_ok-text-in-Text-clause-spelled c = rw (c.in-Some.ensures, c.in-Text.is, c.in_ok-text-in-Text.ensures) s.text

pub returns-in-Some-truth_of-clause-spelled : goal.returns-in-Some-truth_of-clause-spelled
returns-in-Some-truth_of-clause-spelled c = rw (c.in-Some.ensures, c.in-Keyword.is) (truth_spelled _ _ _ c.in-Some-truth_of.ensures)

pub returns-in-Some-eat_number-clause-spelled : goal.returns-in-Some-eat_number-clause-spelled
returns-in-Some-eat_number-clause-spelled c = rw (c.in-Some-eat.ensures, c.in-Some-eat_number.ensures, fits_negative (number_of c.in-Some-eat_number.digits.now) _ c.negative_value-n.ensures.value, c.negative_value-n.ensures.wide) s.negative
