-- What is written of an expression has tokens like those that spelled it.
use Rattle.std.proofs.Common.{◌≡◌, ℕ, zero, suc, ◌<◌, ◌≤◌, ◌^◌, Bool, true, false, cond, List, [], ◌∷◌, ◌++◌, map, Some, None, ℤ, pos, negsuc, leb, ltb, neg_ℤ, refl, sym, subst, arith}
use Rattle.std.specs.Fmt.{signed_decimal}
use Rattle.std.proofs.lemmas.Bool.{leb-false, ltb-false}
use Rattle.loop_tokens.specs.declared.token.Token.{Token}
use Rattle.loop_tokens.specs.declared.token.Token.TheVariants as tok
use Rattle.loop_tokens.specs.declared.keyword.Keyword.{Keyword}
use Rattle.loop_tokens.specs.declared.keyword.Keyword.TheVariants as kw
use Rattle.loop_tokens.specs.declared.keyword.AtWord.{AtWord}
use Rattle.loop_tokens.specs.declared.sign.Sign.{Sign}
use Rattle.loop_tokens.specs.declared.sign.Sign.TheVariants as sg
use Rattle.loop_tokens.specs.Literals.{number_of, text_of, escaped}
use Rattle.loop_data.specs.declared.value.Value.TheVariants as val
use Rattle.loop_data.specs.declared.expr.Op.{Op}
use Rattle.loop_data.specs.declared.expr.Op.TheVariants as op
use Rattle.loop_data.specs.declared.expr.Word.{Word}
use Rattle.loop_data.specs.declared.expr.Word.TheVariants as w
use Rattle.loop_data.specs.declared.expr.Expr.{Expr, fold-roll-Expr, map-Expr, roll-Expr}
use Rattle.loop_data.specs.declared.expr.Expr.TheOpen.{Expr-F, Expr-F as f}
use Rattle.loop_data.specs.declared.expr.Expr.TheVariants as e
use Rattle.loop_exprs.specs.declared.level.Level.{Level}
use Rattle.loop_exprs.specs.Operations.{constant_of, positive_value, negative_value}
use Rattle.loop_exprs.specs.Grammar.{Spells, SpellsParts}
use Rattle.loop_layout.specs.Layout.{Mark, tokens_in}
use Rattle.loop_layout.specs.Canonical.{Written, WrittenExpr, first, apart, glued, close, minus, int_marks, op_token, is_extreme, word_token, simple, in_parentheses, operation, after_comma, parts_marks, called, negated, write_step, written_expr}
use Rattle.loop_layout.specs.Laws.{AllTokens}
use Rattle.loop_layout.proofs.TokenTexts.{same_some}

-- a property of tokens that what is written keeps
pub record Keeps (P : Token → Type 0) : Type 0 where
  pub words : (k : Keyword) → P (tok.Keyword k)
  pub at_words : (a : AtWord) → P (tok.At a)
  pub signs : (s : Sign) → P (tok.Sign s)
  pub texts : (raw : List ℕ) → P (tok.Text raw) → P (tok.Text (escaped (text_of raw)))
  pub numbers : (n : ℕ) → n < 2 ^ 64 → P (tok.Number (signed_decimal (pos n)))

pub record Kept (P : Token → Type 0) (m : Written) : Type 0 where
  pub ok : (a : Bool) → AllTokens P (tokens_in (m a))

pub record KeptExpr (P : Token → Type 0) (v : WrittenExpr) : Type 0 where
  pub whole : Kept P v.whole
  pub part : Kept P v.part

abbrev AllKept : (Token → Type 0) → List WrittenExpr → Type 0
AllKept P [] = Unit {0}
AllKept P (p ∷ ps) = KeptExpr P p × AllKept P ps

-- a number of 64 bits, without its sign
abbrev pub IsSmall : ℤ → Type 0
IsSmall (pos n) = n < 2 ^ 64
IsSmall (negsuc n) = suc n < 2 ^ 64

small_cond : (t : Bool) (z : ℤ) → (t ≡ false → IsSmall z) → IsSmall (cond t (pos 0) z)
small_cond true z h = omega arith
small_cond false z h = h refl

small_negated : (n : ℕ) → n ≤ 2 ^ 63 → IsSmall (neg_ℤ (pos n))
small_negated zero le = omega arith
small_negated (suc n) le = omega arith

pub small_positive : (n : ℕ) → IsSmall (positive_value n)
small_positive n = small_cond (leb (2 ^ 63) n) (pos n) (λ e. (let lt : n < 2 ^ 63 = leb-false (2 ^ 63) n e in omega arith))

pub small_negative : (n : ℕ) → IsSmall (negative_value n)
small_negative n = small_cond (ltb (2 ^ 63) n) (neg_ℤ (pos n)) (λ e. small_negated n (ltb-false (2 ^ 63) n e))

module _ (P : Token → Type 0) (k : Keeps P) where
  pub all_append : (xs ys : List Mark) → AllTokens P (tokens_in xs) → AllTokens P (tokens_in ys) → AllTokens P (tokens_in (xs ++ ys))
  all_append [] ys h g = g
  all_append (m ∷ ms) ys h g = (h.0, all_append ms ys h.1 g)

  pub one_kept : (t : Token) → P t → Kept P (λ a. first a t ∷ [])
  one_kept t h = record { ok = λ a. (h, tt) }

  pub parentheses_kept : (m : Written) → AllTokens P (tokens_in (m false)) → Kept P (in_parentheses m)
  parentheses_kept m h = record { ok = λ a. (k.signs sg.Open, all_append (m false) (glued close ∷ []) h (k.signs sg.Close, tt)) }

  pub called_kept : (t : Token) (inside : List Mark) → P t → AllTokens P (tokens_in inside) → Kept P (called t inside)
  called_kept t inside h g = record { ok = λ a. (h, (k.signs sg.Open, all_append inside (glued close ∷ []) g (k.signs sg.Close, tt))) }

  simple_kept : (m : Written) → Kept P m → KeptExpr P (simple m)
  simple_kept m h = record { whole = h; part = h }

  operation_kept : (m : Written) → Kept P m → KeptExpr P (operation m)
  operation_kept m h = record { whole = h; part = parentheses_kept m (h.ok false) }

  pub int_kept : (n : ℤ) → IsSmall n → Kept P (int_marks n)
  int_kept (pos n) lt = record { ok = λ a. (k.numbers n lt, tt) }
  int_kept (negsuc n) lt = record { ok = λ a. (k.signs sg.Minus, (k.numbers (suc n) lt, tt)) }

  op_kept : (o : Op) → P (op_token o)
  op_kept op.Add = k.signs sg.Plus
  op_kept op.Sub = k.signs sg.Minus
  op_kept op.Mul = k.signs sg.Star
  op_kept op.Div = k.words kw.Div
  op_kept op.Rem = k.words kw.Rem
  op_kept op.Mod = k.words kw.Mod
  op_kept op.Min = k.words kw.Min
  op_kept op.Max = k.words kw.Max
  op_kept op.Join = k.signs sg.Join
  op_kept op.Eq = k.signs sg.Equal
  op_kept op.Ne = k.signs sg.NotEqual
  op_kept op.Lt = k.signs sg.Less
  op_kept op.Le = k.signs sg.AtMost
  op_kept op.Gt = k.signs sg.Greater
  op_kept op.Ge = k.signs sg.AtLeast
  op_kept op.And = k.words kw.And
  op_kept op.Or = k.words kw.Or

  word_kept : (v : Word) → P (word_token v)
  word_kept w.Abs = k.words kw.Abs
  word_kept w.Len = k.words kw.Len
  word_kept w.Int = k.words kw.Int
  word_kept w.TryInt = k.words kw.TryInt
  word_kept w.Text = k.words kw.Text

  after_kept : (ps : List WrittenExpr) → AllKept P ps → AllTokens P (tokens_in (after_comma ps))
  after_kept [] h = tt
  after_kept (p ∷ ps) h = (k.signs sg.Comma, all_append (p.whole true) (after_comma ps) (h.0.whole.ok true) (after_kept ps h.1))

  parts_written : (ps : List WrittenExpr) → AllKept P ps → AllTokens P (tokens_in (parts_marks ps))
  parts_written [] h = tt
  parts_written (p ∷ ps) h = all_append (p.whole false) (after_comma ps) (h.0.whole.ok false) (after_kept ps h.1)

  either_expr : (b : Bool) (u v : WrittenExpr) → KeptExpr P u → KeptExpr P v → KeptExpr P (cond b u v)
  either_expr true u v h g = h
  either_expr false u v h g = g

  either_kept : (b : Bool) (m n : Written) → Kept P m → Kept P n → Kept P (cond b m n)
  either_kept true m n h g = h
  either_kept false m n h g = g

  along : (x : Expr-F Expr) → KeptExpr P (write_step (map-Expr Expr WrittenExpr written_expr x)) → KeptExpr P (written_expr (roll-Expr x))
  along x h = subst (KeptExpr P) (sym (fold-roll-Expr WrittenExpr write_step x)) h

  two_kept : (o : Op) (a b : Expr) → KeptExpr P (written_expr a) → KeptExpr P (written_expr b) → KeptExpr P (written_expr (e.Two o a b))
  unfolding roll-Expr denote.Hole.Carrier.roll
  two_kept o a b h g = along (f.Two o a b) (either_expr (is_extreme o) (simple (called (op_token o) (parts_marks (written_expr a ∷ written_expr b ∷ []))))
      (operation (λ c. (written_expr a).part c ++ apart (op_token o) ∷ (written_expr b).part true))
      (simple_kept _ (called_kept (op_token o) (parts_marks (written_expr a ∷ written_expr b ∷ [])) (op_kept o) (parts_written (written_expr a ∷ written_expr b ∷ []) (h, (g, tt)))))
      (operation_kept (λ c. (written_expr a).part c ++ apart (op_token o) ∷ (written_expr b).part true)
      (record { ok = λ c. all_append ((written_expr a).part c) (apart (op_token o) ∷ (written_expr b).part true) (h.part.ok c) (op_kept o, g.part.ok true) })))

  negate_kept : (a : Expr) → KeptExpr P (written_expr a) → KeptExpr P (written_expr (e.Neg a))
  unfolding roll-Expr denote.Hole.Carrier.roll
  negate_kept a h = along (f.Neg a) (simple_kept _ (parentheses_kept (λ b. first b minus ∷ negated (written_expr a) false) (
    k.signs sg.Minus,
    (either_kept (written_expr a).is_int (in_parentheses (written_expr a).whole) (written_expr a).part (parentheses_kept (written_expr a).whole (h.whole.ok false)) h.part).ok false,
  )))

  not_kept : (a : Expr) → KeptExpr P (written_expr a) → KeptExpr P (written_expr (e.Not a))
  unfolding roll-Expr denote.Hole.Carrier.roll
  not_kept a h = along (f.Not a) (operation_kept (λ b. first b (tok.Keyword kw.Not) ∷ (written_expr a).part true) (record { ok = λ b. (k.words kw.Not, h.part.ok true) }))

  choice_marks : (c p : WrittenExpr) (other : List Mark) → KeptExpr P c → KeptExpr P p → AllTokens P (tokens_in other) →
      Kept P (λ a. first a (tok.Keyword kw.If) ∷ c.part true ++ apart (tok.Keyword kw.Then) ∷ p.part true ++ apart (tok.Keyword kw.Else) ∷ other)
  choice_marks c p other h g i = record {
    ok = λ a. (
      k.words kw.If,
      all_append (c.part true ++ apart (tok.Keyword kw.Then) ∷ p.part true) (apart (tok.Keyword kw.Else) ∷ other)
          (all_append (c.part true) (apart (tok.Keyword kw.Then) ∷ p.part true) (h.part.ok true) (k.words kw.Then, g.part.ok true)) (k.words kw.Else, i),
    );
  }

  choice_kept : (c a b : Expr) → KeptExpr P (written_expr c) → KeptExpr P (written_expr a) → KeptExpr P (written_expr b) → KeptExpr P (written_expr (e.If c a (Some b)))
  unfolding roll-Expr denote.Hole.Carrier.roll
  choice_kept c a b h g i = along (f.If c a (Some b)) (operation_kept _ (choice_marks (written_expr c) (written_expr a) ((written_expr b).part true) h g (i.part.ok true)))

  choice_some_kept : (c a : Expr) → KeptExpr P (written_expr c) → KeptExpr P (written_expr a) → KeptExpr P (written_expr (e.If c a None))
  unfolding roll-Expr denote.Hole.Carrier.roll
  choice_some_kept c a h g = along (f.If c a None) (operation_kept _ (choice_marks (written_expr c) (written_expr a) (apart (tok.Keyword kw.Nothing) ∷ []) h g (k.words kw.Nothing, tt)))

  number_kept : (n : ℤ) → IsSmall n → KeptExpr P (written_expr (e.Lit (val.Int n)))
  unfolding roll-Expr denote.Hole.Carrier.roll
  number_kept n lt = along (f.Lit (val.Int n)) (record { whole = int_kept n lt; part = int_kept n lt })

  text_kept : (raw : List ℕ) → P (tok.Text raw) → KeptExpr P (written_expr (e.Lit (val.Text (text_of raw))))
  unfolding roll-Expr denote.Hole.Carrier.roll
  text_kept raw h = along (f.Lit (val.Text (text_of raw))) (simple_kept _ (one_kept (tok.Text (escaped (text_of raw))) (k.texts raw h)))

  name_kept : (n : List ℕ) → P (tok.Name n) → KeptExpr P (written_expr (e.Name n))
  unfolding roll-Expr denote.Hole.Carrier.roll
  name_kept n h = along (f.Name n) (simple_kept _ (one_kept (tok.Name n) h))

  call_kept : (v : Word) (x : Expr) → KeptExpr P (written_expr x) → KeptExpr P (written_expr (e.Call v x))
  unfolding roll-Expr denote.Hole.Carrier.roll
  call_kept v x h = along (f.Call v x) (simple_kept _ (called_kept (word_token v) ((written_expr x).whole false) (word_kept v) (h.whole.ok false)))

  tuple_kept : (xs : List Expr) → AllKept P (map written_expr xs) → KeptExpr P (written_expr (e.Tuple xs))
  unfolding roll-Expr denote.Hole.Carrier.roll
  tuple_kept xs h = along (f.Tuple xs) (simple_kept _ (parentheses_kept (λ a. parts_marks (map written_expr xs)) (parts_written (map written_expr xs) h)))

  constant_kept : (j : Keyword) (x : Expr) → constant_of j ≡ Some x → KeptExpr P (written_expr x)
  unfolding roll-Expr denote.Hole.Carrier.roll
  constant_kept kw.True x h = subst (λ (y : Expr). KeptExpr P (written_expr y)) (same_some (e.Lit (val.Bool true)) x h) (along (f.Lit (val.Bool true)) (simple_kept _ (one_kept (tok.Keyword kw.True) (k.words kw.True))))
  constant_kept kw.False x h = subst (λ (y : Expr). KeptExpr P (written_expr y)) (same_some (e.Lit (val.Bool false)) x h) (along (f.Lit (val.Bool false)) (simple_kept _ (one_kept (tok.Keyword kw.False) (k.words kw.False))))
  constant_kept kw.Place x h = subst (λ (y : Expr). KeptExpr P (written_expr y)) (same_some e.Place x h) (along (f.Place) (simple_kept _ (one_kept (tok.Keyword kw.Place) (k.words kw.Place))))
  constant_kept _ x h = absurd (cc h)

  mutual
    pub spells_kept : {l : Level} {x : Expr} {u : Bool} {ts rest : List Token} → Spells l x u ts rest → AllTokens P ts → KeptExpr P (written_expr x) × AllTokens P rest
    spells_kept (Spells.tight s) h = spells_kept s h
    spells_kept (Spells.two {o = o} {a = a} {b = b} g is s r) h = let one = spells_kept s h in let other = spells_kept r one.1.1 in (two_kept o a b one.0 other.0, other.1)
    spells_kept (Spells.compare {o = o} {a = a} {b = b} is s r) h = let one = spells_kept s h in let other = spells_kept r one.1.1 in (two_kept o a b one.0 other.0, other.1)
    spells_kept (Spells.not {x = x} s) h = let one = spells_kept s h.1 in (not_kept x one.0, one.1)
    spells_kept (Spells.negative {n = n}) h = (number_kept (negative_value (number_of n)) (small_negative (number_of n)), h.1.1)
    spells_kept (Spells.negate {x = x} none s) h = let one = spells_kept s h.1 in (negate_kept x one.0, one.1)
    spells_kept (Spells.number {n = n}) h = (number_kept (positive_value (number_of n)) (small_positive (number_of n)), h.1)
    spells_kept (Spells.text {raw = raw}) h = (text_kept raw h.0, h.1)
    spells_kept (Spells.name {n = n}) h = (name_kept n h.0, h.1)
    spells_kept (Spells.constant {k = j} {x = x} is) h = (constant_kept j x is, h.1)
    spells_kept (Spells.call {w = v} {x = x} is s) h = let one = spells_kept s h.1.1 in (call_kept v x one.0, one.1.1)
    spells_kept (Spells.extreme {o = o} {a = a} {b = b} is s r) h = let one = spells_kept s h.1.1 in let other = spells_kept r one.1.1 in (two_kept o a b one.0 other.0, other.1.1)
    spells_kept (Spells.choice {c = c} {a = a} {b = b} s r q) h =
        let one = spells_kept s h.1 in let other = spells_kept r one.1.1 in let last = spells_kept q other.1.1 in (choice_kept c a b one.0 other.0 last.0, last.1)
    spells_kept (Spells.choice_some {c = c} {a = a} s r) h = let one = spells_kept s h.1 in let other = spells_kept r one.1.1 in (choice_some_kept c a one.0 other.0, other.1.1.1)
    spells_kept (Spells.group s) h = let one = spells_kept s h.1 in (one.0, one.1.1)
    spells_kept (Spells.tuple {xs = xs} least most s) h = let all = parts_kept s h.1 in
        (tuple_kept xs all.0, all.1.1)

    parts_kept : {xs : List Expr} {u : Bool} {ts rest : List Token} → SpellsParts xs u ts rest → AllTokens P ts → AllKept P (map written_expr xs) × AllTokens P rest
    parts_kept (SpellsParts.last s) h = let one = spells_kept s h in ((one.0, tt), one.1)
    parts_kept (SpellsParts.more s r) h = let one = spells_kept s h in let others = parts_kept r one.1.1 in ((one.0, others.0), others.1)
