use Rattle.std.proofs.Common.{sym, ap, ◌∙◌, is_some}
use Rattle.loop_tokens.proofs.Fronts.{sign_one, sign_none}
use Rattle.loop_tokens.proofs.lex.sign_len.Goals as goal

pub returns-then-is_some : goal.returns-then-is_some
returns-then-is_some c = sign_one c.args.first c.args.rest.now (sym c.if-is_long_sign.ensures) (ap is_some (sym c.short_sign.ensures) ∙ sym c.if-is_some.ensures)

pub returns-else-is_some : goal.returns-else-is_some
returns-else-is_some c = sign_none c.args.first c.args.rest.now (sym c.if-is_long_sign.ensures) (ap is_some (sym c.short_sign.ensures) ∙ sym c.if-is_some.ensures)
