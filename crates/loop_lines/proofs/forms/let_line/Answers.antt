use Rattle.std.proofs.Common.{◌∷◌, rules}
use Rattle.loop_tokens.specs.declared.token.Token.TheVariants as tok
use Rattle.loop_tokens.specs.declared.keyword.Keyword.TheVariants as kw
use Rattle.loop_tokens.specs.declared.sign.Sign.TheVariants as sg
use Rattle.loop_grammar.specs.LineForms.{SpellsLine}
use Rattle.loop_lines.specs.Claims.{Tells, WholeExpr, PatternUpTo, LineOf}
use Rattle.loop_lines.proofs.Steps.{passes, itself, seen_two}
use Rattle.loop_lines.proofs.OneLine.{no_let_names, no_let_expr}
use Rattle.loop_lines.proofs.forms.let_line.Goals as goal

pub returns-in_err-names : goal.returns-in_err-names
returns-in_err-names c = passes (Tells (PatternUpTo sg.Assign c.args.tokens.now)) (Tells (LineOf (tok.Keyword kw.Let ∷ c.args.tokens.now))) seen_two itself c.in_err-names.field-0.0 c.from_residual.result (no_let_names c.args.tokens.now) c.in_err-names.ensures (search rules)

pub returns-in_err-expr : goal.returns-in_err-expr
returns-in_err-expr c = passes (Tells (WholeExpr c.in_ok-names.rest.now)) (Tells (LineOf (tok.Keyword kw.Let ∷ c.args.tokens.now))) itself itself c.in_err-expr.field-0.0 c.from_residual-in_err-expr.result (no_let_expr c.in_ok-names.names c.args.tokens.now c.in_ok-names.rest.now c.in_ok-names.ensures) c.in_err-expr.ensures (search rules)

pub returns : goal.returns
returns c = SpellsLine.let_ c.in_ok-names.ensures c.in_ok-expr.ensures
