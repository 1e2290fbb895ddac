-- The limits of one line of a loop.
-- Source: this project's language.
use Rattle.std.specs.Prelude.{ℕ, ◌+◌, ◌-◌, max, Bool, true, false, ◌||◌, nat_lt, List, [], ◌∷◌, count_by}
use Rattle.loop_tokens.specs.declared.token.Token.{Token}
use Rattle.loop_tokens.specs.declared.token.Token.TheVariants as t
use Rattle.loop_tokens.specs.declared.sign.Sign.TheVariants as s

abbrev pub is_no_parenthesis : Token → Bool
is_no_parenthesis (t.Sign s.Open) = false
is_no_parenthesis (t.Sign s.Close) = false
is_no_parenthesis _ = true

-- how many parentheses are open behind a token, n being open before it; a `)` that closes nothing leaves none open
abbrev pub open_behind : ℕ → Token → ℕ
open_behind n (t.Sign s.Open) = n + 1
open_behind n (t.Sign s.Close) = n - 1
open_behind n _ = n

-- the most parentheses that are open at one place behind some of these tokens, n being open before them
abbrev pub most_open : ℕ → List Token → ℕ
most_open n [] = n
most_open n (t ∷ ts) = max n (most_open (open_behind n t) ts)

-- over 256 tokens are no parentheses, or over 256 parentheses are open at one place
abbrev pub is_too_deep : List Token → Bool
is_too_deep ts = nat_lt 256 (count_by is_no_parenthesis ts) || nat_lt 256 (most_open 0 ts)
