-- Which tokens spell which expression.
-- Source: this project's language.
use Rattle.std.specs.Prelude.{◌≡◌, ℕ, ◌≤◌, Bool, true, false, ◌||◌, List, [], ◌∷◌, length, Some, None}
use Rattle.loop_tokens.specs.declared.token.Token.{Token}
use Rattle.loop_tokens.specs.declared.token.Token.TheVariants as tok
use Rattle.loop_tokens.specs.declared.keyword.Keyword.{Keyword}
use Rattle.loop_tokens.specs.declared.keyword.Keyword.TheVariants as kw
use Rattle.loop_tokens.specs.declared.sign.Sign.TheVariants as sg
use Rattle.loop_tokens.specs.Literals.{number_of, text_of}
use Rattle.loop_data.specs.declared.expr.Op.{Op}
use Rattle.loop_data.specs.declared.expr.Word.{Word}
use Rattle.loop_data.specs.declared.expr.Expr.{Expr}
use Rattle.loop_data.specs.declared.expr.Expr.TheVariants as e
use Rattle.loop_data.specs.declared.value.Value.TheVariants as val
use Rattle.loop_exprs.specs.declared.level.Level.{Level}
use Rattle.loop_exprs.specs.declared.level.Level.TheVariants as level
use Rattle.loop_exprs.specs.Operations.{tighter, groups_left, operation_of, level_of, word_of, extreme_of, constant_of, is_wide}
use Rattle.loop_exprs.specs.Operations.{positive_value, is_wide_negative, negative_value}

-- the token is not the first
abbrev pub NotFirst : Token → List Token → Type 0
NotFirst t ts = (rest : List Token) → ts ≡ t ∷ rest → ⊥

abbrev pub NoNumberFirst : List Token → Type 0
NoNumberFirst ts = (n : List ℕ) → NotFirst (tok.Number n) ts

-- the token stands for the operation, which is one of the level
abbrev pub IsOperation : Level → Token → Op → Type 0
IsOperation l t o = (operation_of t ≡ Some o) × (level_of o ≡ l)

mutual
  -- Spells l x wide from rest: from the front of `from` up to `rest` the tokens spell x at the level l, numbers being of any
  -- size; `wide` says whether some number is too wide.
  pub data Spells : Level → Expr → Bool → List Token → List Token → Type 0 where
    -- what holds together more tightly stands at each looser level
    tight : {l : Level} {x : Expr} {u : Bool} {ts rest : List Token} → Spells (tighter l) x u ts rest → Spells l x u ts rest
    -- repeated operations group to the left
    two : {l : Level} {t : Token} {o : Op} {a b : Expr} {u v : Bool} {ts us rest : List Token} →
        groups_left l ≡ true → IsOperation l t o → Spells l a u ts (t ∷ us) → Spells (tighter l) b v us rest →
        Spells l (e.Two o a b) (u || v) ts rest
    -- comparisons don't repeat
    compare : {t : Token} {o : Op} {a b : Expr} {u v : Bool} {ts us rest : List Token} → IsOperation level.Compare t o →
        Spells level.Join a u ts (t ∷ us) → Spells level.Join b v us rest → Spells level.Compare (e.Two o a b) (u || v) ts rest
    not : {x : Expr} {u : Bool} {ts rest : List Token} →
        Spells level.Not x u ts rest → Spells level.Not (e.Not x) u (tok.Keyword kw.Not ∷ ts) rest
    -- `-` directly before a number is a part of that number
    negative : {n : List ℕ} {rest : List Token} →
        Spells level.Negate (e.Lit (val.Int (negative_value (number_of n)))) (is_wide_negative (number_of n))
        (tok.Sign sg.Minus ∷ tok.Number n ∷ rest) rest
    negate : {x : Expr} {u : Bool} {ts rest : List Token} → NoNumberFirst ts →
        Spells level.Negate x u ts rest → Spells level.Negate (e.Neg x) u (tok.Sign sg.Minus ∷ ts) rest
    number : {n : List ℕ} {rest : List Token} →
        Spells level.Atom (e.Lit (val.Int (positive_value (number_of n)))) (is_wide (number_of n)) (tok.Number n ∷ rest) rest
    text : {raw : List ℕ} {rest : List Token} →
        Spells level.Atom (e.Lit (val.Text (text_of raw))) false (tok.Text raw ∷ rest) rest
    name : {n : List ℕ} {rest : List Token} → Spells level.Atom (e.Name n) false (tok.Name n ∷ rest) rest
    -- `true`, `false` and `place`
    constant : {k : Keyword} {x : Expr} {rest : List Token} →
        constant_of k ≡ Some x → Spells level.Atom x false (tok.Keyword k ∷ rest) rest
    call : {k : Keyword} {w : Word} {x : Expr} {u : Bool} {ts rest : List Token} →
        word_of k ≡ Some w → Spells level.Expr x u ts (tok.Sign sg.Close ∷ rest) →
        Spells level.Atom (e.Call w x) u (tok.Keyword k ∷ tok.Sign sg.Open ∷ ts) rest
    extreme : {k : Keyword} {o : Op} {a b : Expr} {u v : Bool} {ts us rest : List Token} → extreme_of k ≡ Some o →
        Spells level.Expr a u ts (tok.Sign sg.Comma ∷ us) → Spells level.Expr b v us (tok.Sign sg.Close ∷ rest) →
        Spells level.Atom (e.Two o a b) (u || v) (tok.Keyword k ∷ tok.Sign sg.Open ∷ ts) rest
    choice : {c a b : Expr} {u v w : Bool} {ts us vs rest : List Token} →
        Spells level.Expr c u ts (tok.Keyword kw.Then ∷ us) → Spells level.Expr a v us (tok.Keyword kw.Else ∷ vs) →
        Spells level.Expr b w vs rest → Spells level.Expr (e.If c a (Some b)) (u || v || w) (tok.Keyword kw.If ∷ ts) rest
    choice_some : {c a : Expr} {u v : Bool} {ts us rest : List Token} →
        Spells level.Expr c u ts (tok.Keyword kw.Then ∷ us) →
        Spells level.Expr a v us (tok.Keyword kw.Else ∷ tok.Keyword kw.Nothing ∷ rest) →
        Spells level.Expr (e.If c a None) (u || v) (tok.Keyword kw.If ∷ ts) rest
    -- parentheses round one expression leave no trace
    group : {x : Expr} {u : Bool} {ts rest : List Token} →
        Spells level.Expr x u ts (tok.Sign sg.Close ∷ rest) → Spells level.Atom x u (tok.Sign sg.Open ∷ ts) rest
    tuple : {xs : List Expr} {u : Bool} {ts rest : List Token} → 2 ≤ length xs → length xs ≤ 4 →
        SpellsParts xs u ts (tok.Sign sg.Close ∷ rest) → Spells level.Atom (e.Tuple xs) u (tok.Sign sg.Open ∷ ts) rest

  -- the same for expressions with commas between them
  pub data SpellsParts : List Expr → Bool → List Token → List Token → Type 0 where
    last : {x : Expr} {u : Bool} {ts rest : List Token} → Spells level.Expr x u ts rest → SpellsParts (x ∷ []) u ts rest
    more : {x : Expr} {xs : List Expr} {u v : Bool} {ts us rest : List Token} →
        Spells level.Expr x u ts (tok.Sign sg.Comma ∷ us) → SpellsParts xs v us rest → SpellsParts (x ∷ xs) (u || v) ts rest
