use Rattle.std.proofs.Common.{sym, ◌∙◌}
use Rattle.loop_tokens.proofs.TokenOf.{letter_is, digit_is, quote_is, quote_start, quote_end}
use Rattle.loop_tokens.proofs.lex.token_of.Goals as goal

pub range-requires-clause-start_boundary : goal.range-requires-clause-start_boundary
range-requires-clause-start_boundary c = λ some. quote_start c.args.front.now c.in_ok-first.first c.in_ok-first.rest.now (sym c.as_bytes.ensures.value ∙ c.in_ok-first.ensures) c.utf8.front c.if-first-eq34.true

pub range-requires-clause-end_boundary : goal.range-requires-clause-end_boundary
range-requires-clause-end_boundary c = (quote_end c.args.front.now c.in_ok-first.first c.in_ok-first.rest.now (sym c.as_bytes.ensures.value ∙ c.in_ok-first.ensures) c.if-first-eq34.true c.requires).0

pub returns-then-is_letter : goal.returns-then-is_letter
returns-then-is_letter c = rw c.named.ensures (letter_is c.args.front.now c.in_ok-first.first c.in_ok-first.rest.now (sym c.as_bytes.ensures.value ∙ c.in_ok-first.ensures) (sym c.if-is_letter.ensures) c.requires)

pub returns-then-is_digit : goal.returns-then-is_digit
returns-then-is_digit c = rw c.new.ensures (digit_is c.args.front.now c.in_ok-first.first c.in_ok-first.rest.now (sym c.as_bytes.ensures.value ∙ c.in_ok-first.ensures) (sym c.if-is_letter.ensures) (sym c.if-is_digit.ensures) c.requires)

pub returns-then-first-eq34 : goal.returns-then-first-eq34
returns-then-first-eq34 c = rw (c.new-then-first-eq34.ensures, c.range.ensures.value) (quote_is c.args.front.now c.in_ok-first.first c.in_ok-first.rest.now (sym c.as_bytes.ensures.value ∙ c.in_ok-first.ensures) c.if-first-eq34.true c.requires)
