use Rattle.std.proofs.Common.{◌∷◌, rules}
use Rattle.loop_tokens.specs.declared.token.Token.TheVariants as tok
use Rattle.loop_tokens.specs.declared.sign.Sign.TheVariants as sg
use Rattle.loop_grammar.specs.LineForms.{SpellsTower}
use Rattle.loop_lines.specs.Claims.{Tells, ExprUpTo, TowerAt}
use Rattle.loop_lines.proofs.Steps.{passes, seen}
use Rattle.loop_lines.proofs.Towers.{no_leaf}
use Rattle.loop_lines.proofs.tower.leaf.Goals as goal

pub returns-in_err-expr-clause-reads : goal.returns-in_err-expr-clause-reads
returns-in_err-expr-clause-reads c = passes (Tells (ExprUpTo sg.Close c.args.tokens.now)) (Tells (TowerAt (tok.Keyword c.args.word ∷ tok.Sign sg.Open ∷ c.args.tokens.now))) seen seen c.in_err-expr.field-0.0 c.from_residual.result (no_leaf c.args.word c.args.kind c.args.tokens.now c.requires) c.in_err-expr.ensures.reads (search rules)

pub returns-clause-reads : goal.returns-clause-reads
returns-clause-reads c = rw c.in_ok-leaf.ensures (SpellsTower.leaf c.requires c.in_ok-expr.ensures.reads)
