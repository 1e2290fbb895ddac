-- Some sound tokens spell each well-formed expression: each operation in parentheses of its own.
use Rattle.std.proofs.Common.{◌≡◌, ℕ, suc, ◌^◌, nat_lt, nat_le, Bool, true, false, ◌&&◌, List, [], ◌∷◌, length, map, Some, None, pos, negsuc, refl, ap, sym, ◌∙◌, subst, arith}
use lib.IntN.{ℤ}
use Rattle.std.proofs.lemmas.Bool.{and_parts, leb-true}
use Rattle.std.proofs.lemmas.List.{length-map}
use Rattle.std.proofs.lemmas.Bool.Decides.{nat_tests}
use Rattle.std.proofs.lemmas.Str.{IsUtf8-from_is_utf8}
use Rattle.loop_tokens.specs.declared.token.Token.{Token}
use Rattle.loop_tokens.specs.declared.token.Token.TheVariants as tok
use Rattle.loop_tokens.specs.declared.keyword.Keyword.TheVariants as kw
use Rattle.loop_tokens.specs.declared.sign.Sign.TheVariants as sg
use Rattle.loop_tokens.specs.Literals.{number_of, escaped}
use Rattle.loop_data.specs.declared.value.Value.{Value}
use Rattle.loop_data.specs.declared.value.Value.TheVariants as val
use Rattle.loop_data.specs.declared.expr.Op.{Op}
use Rattle.loop_data.specs.declared.expr.Op.TheVariants as op
use Rattle.loop_data.specs.declared.expr.Word.{Word}
use Rattle.loop_data.specs.declared.expr.Word.TheVariants as w
use Rattle.loop_data.specs.declared.expr.Expr.{Expr, roll-Expr, fold-roll-Expr, ind-Expr, map-Expr}
use Rattle.loop_data.specs.declared.expr.Expr.TheVariants as v
use Rattle.loop_data.specs.declared.expr.Expr.TheOpen.{Expr-F, Expr-F as e}
use Rattle.loop_exprs.specs.declared.level.Level.{Level}
use Rattle.loop_exprs.specs.declared.level.Level.TheVariants as level
use Rattle.loop_exprs.specs.Operations.{tighter, groups_left, operation_of, level_of, is_wide, positive_value, is_wide_negative, negative_value}
use Rattle.loop_exprs.specs.Grammar.{Spells, SpellsParts}
use Rattle.loop_grammar.specs.WellFormed.{is_narrow, is_literal, are_several, all_hold, expr_test, is_expr}
use Rattle.loop_layout.specs.Canonical.{open_, close, comma, minus}
use Rattle.loop_layout.proofs.ReadableTokens.{readable_texts}
use Rattle.loop_layout.proofs.WrittenUtf8.{escaped_utf8}
use Rattle.loop_writer.proofs.Numbers.{digits_of, not_wide, not_wide_negative, positive_back, negative_back}
use Rattle.loop_writer.proofs.Tidy.{IsSound, AllSound, word_sound, sign_sound, number_sound}
use Rattle.loop_syntax.proofs.WellNamed.{name_sound}

-- sound tokens that spell x, held together as tightly as can be
pub record Spelling (x : Expr) : Type 0 where
  pub tokens : List Token → List Token
  pub spelled : (rest : List Token) → Spells level.Atom x false (tokens rest) rest
  pub sound : (rest : List Token) → AllSound rest → AllSound (tokens rest)

-- ---- levels

module _ {x : Expr} {ts rest : List Token} where
  at_negate : Spells level.Atom x false ts rest → Spells level.Negate x false ts rest
  at_negate d = Spells.tight {l = level.Negate} d

  at_multiply : Spells level.Atom x false ts rest → Spells level.Multiply x false ts rest
  at_multiply d = Spells.tight {l = level.Multiply} (at_negate d)

  at_add : Spells level.Atom x false ts rest → Spells level.Add x false ts rest
  at_add d = Spells.tight {l = level.Add} (at_multiply d)

  at_join : Spells level.Atom x false ts rest → Spells level.Join x false ts rest
  at_join d = Spells.tight {l = level.Join} (at_add d)

  at_compare : Spells level.Atom x false ts rest → Spells level.Compare x false ts rest
  at_compare d = Spells.tight {l = level.Compare} (at_join d)

  at_not : Spells level.Atom x false ts rest → Spells level.Not x false ts rest
  at_not d = Spells.tight {l = level.Not} (at_compare d)

  at_and : Spells level.Atom x false ts rest → Spells level.And x false ts rest
  at_and d = Spells.tight {l = level.And} (at_not d)

  at_or : Spells level.Atom x false ts rest → Spells level.Or x false ts rest
  at_or d = Spells.tight {l = level.Or} (at_and d)

  pub at_whole : Spells level.Atom x false ts rest → Spells level.Expr x false ts rest
  at_whole d = Spells.tight {l = level.Expr} (at_or d)

  from_not : Spells level.Not x false ts rest → Spells level.Expr x false ts rest
  from_not d = Spells.tight {l = level.Expr} (Spells.tight {l = level.Or} (Spells.tight {l = level.And} d))

  from_compare : Spells level.Compare x false ts rest → Spells level.Expr x false ts rest
  from_compare d = from_not (Spells.tight {l = level.Not} d)

  from_join : Spells level.Join x false ts rest → Spells level.Expr x false ts rest
  from_join d = from_compare (Spells.tight {l = level.Compare} d)

  from_add : Spells level.Add x false ts rest → Spells level.Expr x false ts rest
  from_add d = from_join (Spells.tight {l = level.Join} d)

  from_multiply : Spells level.Multiply x false ts rest → Spells level.Expr x false ts rest
  from_multiply d = from_add (Spells.tight {l = level.Add} d)

  from_negate : Spells level.Negate x false ts rest → Spells level.Expr x false ts rest
  from_negate d = from_multiply (Spells.tight {l = level.Multiply} d)

-- at the level of an operation that groups to the left, on its left and on its right
at_left : (l : Level) {x : Expr} {ts rest : List Token} → groups_left l ≡ true → Spells level.Atom x false ts rest → Spells l x false ts rest
at_left level.Or g d = at_or d
at_left level.And g d = at_and d
at_left level.Join g d = at_join d
at_left level.Add g d = at_add d
at_left level.Multiply g d = at_multiply d
at_left level.Expr g d = absurd (cc)
at_left level.Not g d = absurd (cc)
at_left level.Compare g d = absurd (cc)
at_left level.Negate g d = absurd (cc)
at_left level.Atom g d = absurd (cc)

at_right : (l : Level) {x : Expr} {ts rest : List Token} → groups_left l ≡ true → Spells level.Atom x false ts rest → Spells (tighter l) x false ts rest
at_right level.Or g d = at_and d
at_right level.And g d = at_not d
at_right level.Join g d = at_add d
at_right level.Add g d = at_multiply d
at_right level.Multiply g d = at_negate d
at_right level.Expr g d = absurd (cc)
at_right level.Not g d = absurd (cc)
at_right level.Compare g d = absurd (cc)
at_right level.Negate g d = absurd (cc)
at_right level.Atom g d = absurd (cc)

from_left : (l : Level) {x : Expr} {ts rest : List Token} → groups_left l ≡ true → Spells l x false ts rest → Spells level.Expr x false ts rest
from_left level.Or g d = Spells.tight {l = level.Expr} d
from_left level.And g d = Spells.tight {l = level.Expr} (Spells.tight {l = level.Or} d)
from_left level.Join g d = from_join d
from_left level.Add g d = from_add d
from_left level.Multiply g d = from_multiply d
from_left level.Expr g d = absurd (cc)
from_left level.Not g d = absurd (cc)
from_left level.Compare g d = absurd (cc)
from_left level.Negate g d = absurd (cc)
from_left level.Atom g d = absurd (cc)

-- ---- literals

pub narrow_positive : (n : ℕ) → nat_lt n (2 ^ 63) ≡ true → is_wide n ≡ false
narrow_positive n h = grind (arith, nat_tests)

pub narrow_negative : (n : ℕ) → nat_lt n (2 ^ 63) ≡ true → is_wide_negative (suc n) ≡ false
narrow_negative n h = grind (arith, nat_tests)

pub int_spelling : (i : ℤ) → is_narrow i ≡ true → Spelling (v.Lit (val.Int i))
int_spelling (pos n) h =
    let wide = narrow_positive n h in
    let back = positive_back n wide in
    let P : ℤ → List Token → Type 0 = λ i rest. Spells level.Atom (v.Lit (val.Int i)) false (tok.Number (digits_of n) ∷ rest) rest in
    let Q : Bool → List Token → Type 0 = λ u rest. Spells level.Atom (v.Lit (val.Int (positive_value (number_of (digits_of n))))) u (tok.Number (digits_of n) ∷ rest) rest in
    record {
      tokens = λ rest. tok.Number (digits_of n) ∷ rest;
      spelled = λ rest. subst (λ i. P i rest) back.value (subst (λ u. Q u rest) back.wide (Spells.number {n = digits_of n} {rest = rest}));
      sound = λ rest r. (number_sound n (not_wide n wide), r);
    }
int_spelling (negsuc n) h =
    let wide = narrow_negative n h in
    let back = negative_back n wide in
    let front : List Token → List Token = λ rest. minus ∷ tok.Number (digits_of (suc n)) ∷ rest in
    let P : ℤ → List Token → Type 0 = λ i rest. Spells level.Negate (v.Lit (val.Int i)) false (front rest) rest in
    let Q : Bool → List Token → Type 0 = λ u rest. Spells level.Negate (v.Lit (val.Int (negative_value (number_of (digits_of (suc n)))))) u (front rest) rest in
    record {
      tokens = λ rest. open_ ∷ minus ∷ tok.Number (digits_of (suc n)) ∷ close ∷ rest;
      spelled = λ rest. Spells.group (from_negate (subst (λ i. P i (close ∷ rest)) back.value (subst (λ u. Q u (close ∷ rest)) back.wide (Spells.negative {n = digits_of (suc n)} {rest = close ∷ rest}))));
      sound = λ rest r. (sign_sound sg.Open, (sign_sound sg.Minus, (number_sound (suc n) (not_wide_negative (suc n) wide), (sign_sound sg.Close, r))));
    }

literal_spelling : (l : Value) → is_literal l ≡ true → Spelling (v.Lit l)
literal_spelling (val.Int i) h = int_spelling i h
literal_spelling (val.Bool true) h = record { tokens = λ rest. tok.Keyword kw.True ∷ rest; spelled = λ rest. Spells.constant refl; sound = λ rest r. (word_sound kw.True, r) }
literal_spelling (val.Bool false) h = record { tokens = λ rest. tok.Keyword kw.False ∷ rest; spelled = λ rest. Spells.constant refl; sound = λ rest r. (word_sound kw.False, r) }
literal_spelling (val.Text s) h =
    let P : List Token → List ℕ → Type 0 = λ rest t. Spells level.Atom (v.Lit (val.Text t)) false (tok.Text (escaped s) ∷ rest) rest in
    record {
      tokens = λ rest. tok.Text (escaped s) ∷ rest;
      spelled = λ rest. subst (P rest) (readable_texts s).1 (Spells.text {raw = escaped s} {rest = rest});
      sound = λ rest r. (((readable_texts s).0, escaped_utf8 s (IsUtf8-from_is_utf8 s h)), r);
    }
literal_spelling _ h = absurd (cc)

-- ---- operations

no_number : (n : List ℕ) (ts us : List Token) → open_ ∷ ts ≡ tok.Number n ∷ us → ⊥
no_number n ts us h = cc

neg_spelling : (x : Expr) → Spelling x → Spelling (v.Neg x)
neg_spelling x p = record {
  tokens = λ rest. open_ ∷ minus ∷ open_ ∷ p.tokens (close ∷ close ∷ rest);
  spelled = λ rest. Spells.group (from_negate (Spells.negate (λ n us h. no_number n (p.tokens (close ∷ close ∷ rest)) us h) (at_negate (Spells.group (at_whole (p.spelled (close ∷ close ∷ rest)))))));
  sound = λ rest r. (sign_sound sg.Open, (sign_sound sg.Minus, (sign_sound sg.Open, p.sound (close ∷ close ∷ rest) (sign_sound sg.Close, (sign_sound sg.Close, r)))));
}

not_spelling : (x : Expr) → Spelling x → Spelling (v.Not x)
not_spelling x p = record {
  tokens = λ rest. open_ ∷ tok.Keyword kw.Not ∷ p.tokens (close ∷ rest);
  spelled = λ rest. Spells.group (from_not (Spells.not (at_not (p.spelled (close ∷ rest)))));
  sound = λ rest r. (sign_sound sg.Open, (word_sound kw.Not, p.sound (close ∷ rest) (sign_sound sg.Close, r)));
}

module _ (x y : Expr) (p : Spelling x) (q : Spelling y) where
  -- a token between two sides
  between : Token → List Token → List Token
  between t rest = open_ ∷ p.tokens (t ∷ q.tokens (close ∷ rest))

  between_sound : (t : Token) → IsSound t → (rest : List Token) → AllSound rest → AllSound (open_ ∷ p.tokens (t ∷ q.tokens (close ∷ rest)))
  between_sound t s rest r = (sign_sound sg.Open, p.sound (t ∷ q.tokens (close ∷ rest)) (s, q.sound (close ∷ rest) (sign_sound sg.Close, r)))

  grouped : (l : Level) (t : Token) (o : Op) → groups_left l ≡ true → operation_of t ≡ Some o → level_of o ≡ l → IsSound t → Spelling (v.Two o x y)
  grouped l t o g is at s = record {
    tokens = λ rest. open_ ∷ p.tokens (t ∷ q.tokens (close ∷ rest));
    spelled = λ rest. Spells.group (from_left l g (Spells.two {l = l} {t = t} g (is, at) (at_left l g (p.spelled (t ∷ q.tokens (close ∷ rest)))) (at_right l g (q.spelled (close ∷ rest)))));
    sound = between_sound t s;
  }

  compared : (t : Token) (o : Op) → operation_of t ≡ Some o → level_of o ≡ level.Compare → IsSound t → Spelling (v.Two o x y)
  compared t o is at s = record {
    tokens = λ rest. open_ ∷ p.tokens (t ∷ q.tokens (close ∷ rest));
    spelled = λ rest. Spells.group (from_compare (Spells.compare {t = t} (is, at) (at_join (p.spelled (t ∷ q.tokens (close ∷ rest)))) (at_join (q.spelled (close ∷ rest)))));
    sound = between_sound t s;
  }

  two_spelling : (o : Op) → Spelling (v.Two o x y)
  two_spelling op.Add = grouped level.Add (tok.Sign sg.Plus) op.Add refl refl refl (sign_sound sg.Plus)
  two_spelling op.Sub = grouped level.Add (tok.Sign sg.Minus) op.Sub refl refl refl (sign_sound sg.Minus)
  two_spelling op.Mul = grouped level.Multiply (tok.Sign sg.Star) op.Mul refl refl refl (sign_sound sg.Star)
  two_spelling op.Div = grouped level.Multiply (tok.Keyword kw.Div) op.Div refl refl refl (word_sound kw.Div)
  two_spelling op.Rem = grouped level.Multiply (tok.Keyword kw.Rem) op.Rem refl refl refl (word_sound kw.Rem)
  two_spelling op.Mod = grouped level.Multiply (tok.Keyword kw.Mod) op.Mod refl refl refl (word_sound kw.Mod)
  two_spelling op.Join = grouped level.Join (tok.Sign sg.Join) op.Join refl refl refl (sign_sound sg.Join)
  two_spelling op.And = grouped level.And (tok.Keyword kw.And) op.And refl refl refl (word_sound kw.And)
  two_spelling op.Or = grouped level.Or (tok.Keyword kw.Or) op.Or refl refl refl (word_sound kw.Or)
  two_spelling op.Eq = compared (tok.Sign sg.Equal) op.Eq refl refl (sign_sound sg.Equal)
  two_spelling op.Ne = compared (tok.Sign sg.NotEqual) op.Ne refl refl (sign_sound sg.NotEqual)
  two_spelling op.Lt = compared (tok.Sign sg.Less) op.Lt refl refl (sign_sound sg.Less)
  two_spelling op.Le = compared (tok.Sign sg.AtMost) op.Le refl refl (sign_sound sg.AtMost)
  two_spelling op.Gt = compared (tok.Sign sg.Greater) op.Gt refl refl (sign_sound sg.Greater)
  two_spelling op.Ge = compared (tok.Sign sg.AtLeast) op.Ge refl refl (sign_sound sg.AtLeast)
  two_spelling op.Min = record {
    tokens = λ rest. tok.Keyword kw.Min ∷ open_ ∷ p.tokens (comma ∷ q.tokens (close ∷ rest));
    spelled = λ rest. Spells.extreme {k = kw.Min} refl (at_whole (p.spelled (comma ∷ q.tokens (close ∷ rest)))) (at_whole (q.spelled (close ∷ rest)));
    sound = λ rest r. (word_sound kw.Min, between_sound comma (sign_sound sg.Comma) rest r);
  }
  two_spelling op.Max = record {
    tokens = λ rest. tok.Keyword kw.Max ∷ open_ ∷ p.tokens (comma ∷ q.tokens (close ∷ rest));
    spelled = λ rest. Spells.extreme {k = kw.Max} refl (at_whole (p.spelled (comma ∷ q.tokens (close ∷ rest)))) (at_whole (q.spelled (close ∷ rest)));
    sound = λ rest r. (word_sound kw.Max, between_sound comma (sign_sound sg.Comma) rest r);
  }

call_spelling : (x : Expr) → Spelling x → (f : Word) → Spelling (v.Call f x)
call_spelling x p w.Abs = record {
  tokens = λ rest. tok.Keyword kw.Abs ∷ open_ ∷ p.tokens (close ∷ rest);
  spelled = λ rest. Spells.call {w = w.Abs} refl (at_whole (p.spelled (close ∷ rest)));
  sound = λ rest r. (word_sound kw.Abs, (sign_sound sg.Open, p.sound (close ∷ rest) (sign_sound sg.Close, r)));
}
call_spelling x p w.Len = record {
  tokens = λ rest. tok.Keyword kw.Len ∷ open_ ∷ p.tokens (close ∷ rest);
  spelled = λ rest. Spells.call {w = w.Len} refl (at_whole (p.spelled (close ∷ rest)));
  sound = λ rest r. (word_sound kw.Len, (sign_sound sg.Open, p.sound (close ∷ rest) (sign_sound sg.Close, r)));
}
call_spelling x p w.Int = record {
  tokens = λ rest. tok.Keyword kw.Int ∷ open_ ∷ p.tokens (close ∷ rest);
  spelled = λ rest. Spells.call {w = w.Int} refl (at_whole (p.spelled (close ∷ rest)));
  sound = λ rest r. (word_sound kw.Int, (sign_sound sg.Open, p.sound (close ∷ rest) (sign_sound sg.Close, r)));
}
call_spelling x p w.TryInt = record {
  tokens = λ rest. tok.Keyword kw.TryInt ∷ open_ ∷ p.tokens (close ∷ rest);
  spelled = λ rest. Spells.call {w = w.TryInt} refl (at_whole (p.spelled (close ∷ rest)));
  sound = λ rest r. (word_sound kw.TryInt, (sign_sound sg.Open, p.sound (close ∷ rest) (sign_sound sg.Close, r)));
}
call_spelling x p w.Text = record {
  tokens = λ rest. tok.Keyword kw.Text ∷ open_ ∷ p.tokens (close ∷ rest);
  spelled = λ rest. Spells.call {w = w.Text} refl (at_whole (p.spelled (close ∷ rest)));
  sound = λ rest r. (word_sound kw.Text, (sign_sound sg.Open, p.sound (close ∷ rest) (sign_sound sg.Close, r)));
}

choice_spelling : (c x y : Expr) → Spelling c → Spelling x → Spelling y → Spelling (v.If c x (Some y))
choice_spelling c x y o p q = record {
  tokens = λ rest. open_ ∷ tok.Keyword kw.If ∷ o.tokens (tok.Keyword kw.Then ∷ p.tokens (tok.Keyword kw.Else ∷ q.tokens (close ∷ rest)));
  spelled = λ rest. Spells.group (Spells.choice (at_whole (o.spelled (tok.Keyword kw.Then ∷ p.tokens (tok.Keyword kw.Else ∷ q.tokens (close ∷ rest)))))
      (at_whole (p.spelled (tok.Keyword kw.Else ∷ q.tokens (close ∷ rest)))) (at_whole (q.spelled (close ∷ rest))));
  sound = λ rest r. (
    sign_sound sg.Open,
    (
      word_sound kw.If,
      o.sound (tok.Keyword kw.Then ∷ p.tokens (tok.Keyword kw.Else ∷ q.tokens (close ∷ rest)))
          (word_sound kw.Then, p.sound (tok.Keyword kw.Else ∷ q.tokens (close ∷ rest)) (word_sound kw.Else, q.sound (close ∷ rest) (sign_sound sg.Close, r))),
    ),
  );
}

nothing_spelling : (c x : Expr) → Spelling c → Spelling x → Spelling (v.If c x None)
nothing_spelling c x o p =
    let end : List Token → List Token = λ rest. tok.Keyword kw.Else ∷ tok.Keyword kw.Nothing ∷ close ∷ rest in
    record {
      tokens = λ rest. open_ ∷ tok.Keyword kw.If ∷ o.tokens (tok.Keyword kw.Then ∷ p.tokens (end rest));
      spelled = λ rest. Spells.group (Spells.choice_some (at_whole (o.spelled (tok.Keyword kw.Then ∷ p.tokens (end rest)))) (at_whole (p.spelled (end rest))));
      sound = λ rest r. (
        sign_sound sg.Open,
        (
          word_sound kw.If,
          o.sound (tok.Keyword kw.Then ∷ p.tokens (end rest))
              (word_sound kw.Then, p.sound (end rest) (word_sound kw.Else, (word_sound kw.Nothing, (sign_sound sg.Close, r)))),
        ),
      );
    }

-- ---- tuples

abbrev Known : Type 0
Known = (x : Expr) × Spelling x

abbrev known : Known → Expr
known s = s.0

parts_tokens : List Known → List Token → List Token
parts_tokens [] rest = rest
parts_tokens (s ∷ []) rest = (s.1).tokens rest
parts_tokens (s ∷ t ∷ ss) rest = (s.1).tokens (comma ∷ parts_tokens (t ∷ ss) rest)

parts_spelled : (s : Known) (ss : List Known) (rest : List Token) → SpellsParts (map known (s ∷ ss)) false (parts_tokens (s ∷ ss) rest) rest
unfolding parts_tokens
parts_spelled s [] rest = SpellsParts.last (at_whole ((s.1).spelled rest))
parts_spelled s (t ∷ ss) rest = SpellsParts.more (at_whole ((s.1).spelled (comma ∷ parts_tokens (t ∷ ss) rest))) (parts_spelled t ss rest)

parts_sound : (ss : List Known) (rest : List Token) → AllSound rest → AllSound (parts_tokens ss rest)
unfolding parts_tokens
parts_sound [] rest r = r
parts_sound (s ∷ []) rest r = (s.1).sound rest r
parts_sound (s ∷ t ∷ ss) rest r = (s.1).sound (comma ∷ parts_tokens (t ∷ ss) rest) (sign_sound sg.Comma, parts_sound (t ∷ ss) rest r)

tuple_spelling : (ss : List Known) → are_several ss ≡ true → Spelling (v.Tuple (map known ss))
tuple_spelling [] h = absurd (let no : nat_le 2 0 ≡ true = (and_parts (nat_le 2 0) (nat_le 0 4) h).0 in cc)
tuple_spelling (s ∷ ss) h =
    let p = and_parts (nat_le 2 (length (s ∷ ss))) (nat_le (length (s ∷ ss)) 4) h in
    let size : length (map known (s ∷ ss)) ≡ length (s ∷ ss) = length-map (s ∷ ss) known in
    let low = leb-true 2 (length (s ∷ ss)) p.0 in
    let high = leb-true (length (s ∷ ss)) 4 p.1 in
    record {
      tokens = λ rest. open_ ∷ parts_tokens (s ∷ ss) (close ∷ rest);
      spelled = λ rest. Spells.tuple (omega (arith, size, low)) (omega (arith, size, high)) (parts_spelled s ss (close ∷ rest));
      sound = λ rest r. (sign_sound sg.Open, parts_sound (s ∷ ss) (close ∷ rest) (sign_sound sg.Close, r));
    }

-- ---- all of them

abbrev HasSpelling : Expr → Type 0
HasSpelling x = is_expr x ≡ true → Spelling x

abbrev Such : Type 0
Such = (x : Expr) × HasSpelling x

abbrev bare : Such → Expr
bare s = s.0

-- parts that are well formed, each with its spelling
all_known : (ss : List Such) → all_hold (map is_expr (map bare ss)) ≡ true → (ks : List Known) × (map known ks ≡ map bare ss)
all_known [] h = ([], refl)
all_known (s ∷ ss) h =
    let p = and_parts (is_expr s.0) (all_hold (map is_expr (map bare ss))) h in
    let r = all_known ss p.1 in
    ((s.0, s.1 p.0) ∷ r.0, ap (λ xs. s.0 ∷ xs) r.1)

abbrev layer_test : Expr-F Such → Bool
layer_test y = expr_test (map-Expr Expr Bool is_expr (map-Expr Such Expr bare y))

layer : (y : Expr-F Such) → layer_test y ≡ true → Spelling (roll-Expr (map-Expr Such Expr bare y))
layer (e.Lit l) h = subst Spelling (sym (v.rolls-Lit l)) (literal_spelling l h)
layer (e.Name n) h = subst Spelling (sym (v.rolls-Name n)) (record { tokens = λ rest. tok.Name n ∷ rest; spelled = λ rest. Spells.name; sound = λ rest r. (name_sound n h, r) })
layer e.Place h = subst Spelling (sym v.rolls-Place) (record { tokens = λ rest. tok.Keyword kw.Place ∷ rest; spelled = λ rest. Spells.constant refl; sound = λ rest r. (word_sound kw.Place, r) })
layer (e.Neg a) h = subst Spelling (sym (v.rolls-Neg a.0)) (neg_spelling a.0 (a.1 h))
layer (e.Not a) h = subst Spelling (sym (v.rolls-Not a.0)) (not_spelling a.0 (a.1 h))
layer (e.Two o a b) h =
    let p = and_parts (is_expr a.0) (is_expr b.0) h in
    subst Spelling (sym (v.rolls-Two o a.0 b.0)) (two_spelling a.0 b.0 (a.1 p.0) (b.1 p.1) o)
layer (e.Call f a) h = subst Spelling (sym (v.rolls-Call f a.0)) (call_spelling a.0 (a.1 h) f)
layer (e.If c a None) h =
    let p = and_parts (is_expr c.0) (is_expr a.0 && true) h in
    let q = and_parts (is_expr a.0) true p.1 in
    subst Spelling (sym (v.rolls-If c.0 a.0 None)) (nothing_spelling c.0 a.0 (c.1 p.0) (a.1 q.0))
layer (e.If c a (Some b)) h =
    let p = and_parts (is_expr c.0) (is_expr a.0 && is_expr b.0) h in
    let q = and_parts (is_expr a.0) (is_expr b.0) p.1 in
    subst Spelling (sym (v.rolls-If c.0 a.0 (Some b.0))) (choice_spelling c.0 a.0 b.0 (c.1 p.0) (a.1 q.0) (b.1 q.1))
layer (e.Tuple ss) h =
    let bs = map is_expr (map bare ss) in
    let p = and_parts (are_several bs) (all_hold bs) h in
    let r = all_known ss p.1 in
    let size : length bs ≡ length r.0 = length-map (map bare ss) is_expr ∙ sym (ap length r.1) ∙ length-map r.0 known in
    let P : ℕ → Type 0 = λ n. (nat_le 2 n && nat_le n 4) ≡ true in
    subst Spelling (sym (v.rolls-Tuple (map bare ss))) (subst (λ xs. Spelling (v.Tuple xs)) r.1 (tuple_spelling r.0 (subst P size p.0)))

pub expr_spelling : (x : Expr) → is_expr x ≡ true → Spelling x
expr_spelling = ind-Expr HasSpelling (λ x y is h.
    let there : HasSpelling (roll-Expr x) = λ g. subst (λ w. expr_test (map-Expr Expr Bool is_expr w) ≡ true → Spelling (roll-Expr w)) is (layer y) (sym (fold-roll-Expr Bool expr_test x) ∙ g) in
    there h)
