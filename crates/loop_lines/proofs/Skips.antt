-- Where the tokens behind a name are the rest of `on fault skip`.
use Rattle.std.proofs.Common.{◌≡◌, ◌≢◌, Bool, true, false, MatchBool, List, [], ◌∷◌, codes, ap, sym, ◌∙◌}
use Rattle.loop_tokens.specs.declared.token.Token.{Token}
use Rattle.loop_tokens.specs.declared.token.Token.TheVariants as tok
use Rattle.loop_lines.specs.Skips.{IsFaultSkip}
use Rattle.loop_lines.proofs.Steps.{tails}

-- behind `fault` and `skip` the end decides
pub end_decides : (b : Bool) (ts rest : List Token) → IsFaultSkip ts rest → MatchBool b (rest ≡ []) (rest ≢ []) →
    MatchBool b (IsFaultSkip ts []) (IsFaultSkip ts [] → ⊥)
end_decides true ts rest same h = same ∙ ap (λ z. tok.Name (codes "fault") ∷ tok.Name (codes "skip") ∷ z) h
end_decides false ts rest same h = λ e. h (tails (tails (sym same ∙ e)))

-- where the one holds, the other decides both
pub both_decide : (b : Bool) (A B : Type 0) → A → MatchBool b B (B → ⊥) → MatchBool b (A × B) (A × B → ⊥)
both_decide true A B a h = (a, h)
both_decide false A B a h = λ p. h p.1
