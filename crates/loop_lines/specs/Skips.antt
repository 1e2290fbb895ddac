-- What follows the name `on` in the line `on fault skip`.
-- Source: this project.
use Rattle.std.specs.Prelude.{◌≡◌, List, ◌∷◌, codes}
use Rattle.loop_tokens.specs.declared.token.Token.{Token}
use Rattle.loop_tokens.specs.declared.token.Token.TheVariants as tok

-- the names `fault` and `skip` come first, and these tokens stand behind them
abbrev pub IsFaultSkip : List Token → List Token → Type 0
IsFaultSkip ts rest = ts ≡ tok.Name (codes "fault") ∷ tok.Name (codes "skip") ∷ rest

-- they don't
abbrev pub NoFaultSkip : List Token → Type 0
NoFaultSkip ts = (rest : List Token) → IsFaultSkip ts rest → ⊥
