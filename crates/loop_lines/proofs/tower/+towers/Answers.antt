use Rattle.std.proofs.Common.{◌∷◌, rules}
use Rattle.loop_tokens.specs.declared.token.Token.TheVariants as tok
use Rattle.loop_tokens.specs.declared.keyword.Keyword.TheVariants as kw
use Rattle.loop_tokens.specs.declared.sign.Sign.TheVariants as sg
use Rattle.loop_grammar.specs.LineForms.{SpellsTower}
use Rattle.loop_lines.specs.Claims.{Tells, ExprUpTo, TowerAt, TowerUpTo}
use Rattle.loop_lines.proofs.Steps.{passes, seen}
use Rattle.loop_lines.proofs.Towers.{no_call, no_key, no_inner, no_left, no_right, unended}
use Rattle.loop_lines.proofs.tower.+towers.Goals as goal

pub tower-returns-in_default-clause-reads : goal.tower-returns-in_default-clause-reads
tower-returns-in_default-clause-reads t c = no_call c.args.tokens.now c.in_default.ensures

pub tower_up_to-returns-in_err-found-clause-reads : goal.tower_up_to-returns-in_err-found-clause-reads
tower_up_to-returns-in_err-found-clause-reads t c = passes (Tells (TowerAt c.args.tokens.now)) (Tells (TowerUpTo c.args.sign c.args.tokens.now)) seen seen c.in_err-found.field-0.0 c.from_residual.result (λ none p d. none (p.0, p.1, tok.Sign c.args.sign ∷ p.2) d) c.in_err-found.ensures.reads (search rules)

pub tower_up_to-returns-in-None-clause-reads : goal.tower_up_to-returns-in-None-clause-reads
tower_up_to-returns-in-None-clause-reads t c = unended c.args.sign c.in_ok-found.found c.in_ok-found.wide c.args.tokens.now c.in_ok-found.rest.now c.in_ok-found.ensures.reads c.in-None.ensures

pub group-returns-in_err-key-clause-reads : goal.group-returns-in_err-key-clause-reads
group-returns-in_err-key-clause-reads t c = passes (Tells (ExprUpTo sg.Comma c.args.tokens.now)) (Tells (TowerAt (tok.Keyword kw.Group ∷ tok.Sign sg.Open ∷ c.args.tokens.now))) seen seen c.in_err-key.field-0.0 c.from_residual.result (no_key c.args.tokens.now) c.in_err-key.ensures.reads (search rules)

pub group-returns-in_err-inner-clause-reads : goal.group-returns-in_err-inner-clause-reads
group-returns-in_err-inner-clause-reads t c = passes (Tells (TowerUpTo sg.Close c.in_ok-key.rest.now)) (Tells (TowerAt (tok.Keyword kw.Group ∷ tok.Sign sg.Open ∷ c.args.tokens.now))) seen seen c.in_err-inner.field-0.0 c.from_residual-in_err-inner.result (no_inner c.in_ok-key.key c.in_ok-key.wide c.args.tokens.now c.in_ok-key.rest.now c.in_ok-key.ensures.reads) c.in_err-inner.ensures.reads (search rules)

pub group-returns-clause-reads : goal.group-returns-clause-reads
group-returns-clause-reads t c = rw c.in_ok-whole.ensures (SpellsTower.grouped c.in_ok-key.ensures.reads c.in_ok-inner.ensures.reads)

pub both-returns-in_err-left-clause-reads : goal.both-returns-in_err-left-clause-reads
both-returns-in_err-left-clause-reads t c = passes (Tells (TowerUpTo sg.Comma c.args.tokens.now)) (Tells (TowerAt (tok.Keyword kw.Both ∷ tok.Sign sg.Open ∷ c.args.tokens.now))) seen seen c.in_err-left.field-0.0 c.from_residual.result (no_left c.args.tokens.now) c.in_err-left.ensures.reads (search rules)

pub both-returns-in_err-right-clause-reads : goal.both-returns-in_err-right-clause-reads
both-returns-in_err-right-clause-reads t c = passes (Tells (TowerUpTo sg.Close c.in_ok-left.rest.now)) (Tells (TowerAt (tok.Keyword kw.Both ∷ tok.Sign sg.Open ∷ c.args.tokens.now))) seen seen c.in_err-right.field-0.0 c.from_residual-in_err-right.result (no_right c.in_ok-left.left c.in_ok-left.wide c.args.tokens.now c.in_ok-left.rest.now c.in_ok-left.ensures.reads) c.in_err-right.ensures.reads (search rules)

pub both-returns-clause-reads : goal.both-returns-clause-reads
both-returns-clause-reads t c = rw c.in_ok-whole.ensures (SpellsTower.both c.in_ok-left.ensures.reads c.in_ok-right.ensures.reads)
