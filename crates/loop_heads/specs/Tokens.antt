-- Which token doesn't come first.
-- Source: this project.
use Rattle.std.specs.Prelude.{ℕ, Bool, true, false, List, Option, Some, None}
use Rattle.loop_tokens.specs.declared.token.Token.{Token}
use Rattle.loop_tokens.specs.declared.token.Token.TheVariants as tok
use Rattle.loop_tokens.specs.declared.keyword.Keyword.{Keyword}
use Rattle.loop_tokens.specs.declared.keyword.Keyword.TheVariants as kw
use Rattle.loop_exprs.specs.Grammar.{NotFirst}

abbrev pub NoNameFirst : List Token → Type 0
NoNameFirst ts = (n : List ℕ) → NotFirst (tok.Name n) ts

abbrev pub NoTextFirst : List Token → Type 0
NoTextFirst ts = (raw : List ℕ) → NotFirst (tok.Text raw) ts

-- the truth that a word stands for
abbrev pub truth_of : Keyword → Option Bool
truth_of kw.True = Some true
truth_of kw.False = Some false
truth_of _ = None
