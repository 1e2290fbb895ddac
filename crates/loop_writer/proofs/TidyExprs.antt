-- What is written of an expression is laid out well, with no more other tokens than spelled it, and no more open parentheses than other tokens.
use Rattle.std.proofs.Common.{◌≡◌, ℕ, zero, suc, ◌+◌, ◌≤◌, ◌<◌, ◌^◌, Bool, true, false, ◌||◌, List, [], ◌∷◌, ◌++◌, length, map, Option, Some, None, pos, negsuc, neg_ℤ, refl, ap, sym, ◌∙◌, subst, arith, if◌then◌else◌}
use lib.IntN.{ℤ}
use Rattle.loop_tokens.specs.declared.token.Token.{Token}
use Rattle.loop_tokens.specs.declared.token.Token.TheVariants as tok
use Rattle.loop_tokens.specs.declared.keyword.Keyword.{Keyword}
use Rattle.loop_tokens.specs.declared.keyword.Keyword.TheVariants as kw
use Rattle.loop_tokens.specs.declared.sign.Sign.TheVariants as sg
use Rattle.loop_tokens.specs.Literals.{number_of, text_of, escaped}
use Rattle.loop_tokens.specs.Limits.{is_no_parenthesis}
use Rattle.loop_data.specs.declared.value.Value.TheVariants as val
use Rattle.loop_data.specs.declared.expr.Op.{Op}
use Rattle.loop_data.specs.declared.expr.Op.TheVariants as op
use Rattle.loop_data.specs.declared.expr.Word.{Word}
use Rattle.loop_data.specs.declared.expr.Word.TheVariants as w
use Rattle.loop_data.specs.declared.expr.Expr.{Expr}
use Rattle.loop_data.specs.declared.expr.Expr.TheVariants as e
use Rattle.loop_exprs.specs.declared.level.Level.{Level}
use Rattle.loop_exprs.specs.Operations.{operation_of, groups_left, extreme_of, constant_of, positive_value, negative_value}
use Rattle.loop_exprs.specs.Grammar.{Spells, SpellsParts}
use Rattle.loop_layout.specs.Layout.{Mark, is_edge}
use Rattle.loop_layout.specs.Canonical.{Written, WrittenExpr, first, glued, apart, comma, minus, int_marks, op_token, is_extreme, word_token, simple, in_parentheses, operation, parts_marks, called, literal_expr, negated, else_marks, written_expr, expr_marks}
use Rattle.loop_writer.proofs.Numbers.{digits_of, not_wide, not_wide_negative, positive_there, negative_there}
use Rattle.loop_writer.proofs.Expressions.{left_false, right_false, some_same, left_is_plain, compare_is_plain, two_written, choice_written, parts_from, parts_from-false, comma_before, written-Lit, written-Name, written-Place, written-Neg, written-Not, written-Two, written-Call, written-If, written-IfNone, written-Tuple}
use Rattle.loop_writer.proofs.Tidy.{IsSound, AllSound, word_sound, sign_sound, number_sound, text_sound, one_if, is_loose, laid_append, edge_laid, first_laid, others, others_in, others-append, opens_more, opens_append, opens_none, opens_token, IsTidy, tidy_more, tidy_token, tidy_parentheses, AreTidy, tidy_inside, tidy_called, tidy_at}

-- what is written of an expression with k tokens that are no parentheses
pub record IsTidyExpr (k : ℕ) (x : WrittenExpr) : Type 0 where
  pub some : 1 ≤ k
  pub whole : IsTidy k k x.whole
  pub part : IsTidy k k x.part
  pub int : x.is_int ≡ true → IsTidy k 0 x.whole

simple_tidy : (k : ℕ) (m : Written) → 1 ≤ k → IsTidy k k m → IsTidyExpr k (simple m)
simple_tidy k m some h = record { some = some; whole = h; part = h; int = λ no. absurd (cc) }

token_tidy : (t : Token) → IsSound t → is_no_parenthesis t ≡ true → IsTidyExpr 1 (simple (λ a. first a t ∷ []))
token_tidy t r h = simple_tidy 1 (λ a. first a t ∷ []) (omega arith) (tidy_more 1 0 1 (λ a. first a t ∷ []) (omega arith) (tidy_token t r h))

operation_tidy : (k d : ℕ) (m : Written) → d + 1 ≤ k → IsTidy k d m → IsTidyExpr k (operation m)
operation_tidy k d m le h = record {
  some = omega arith;
  whole = tidy_more k d k m (omega arith) h;
  part = tidy_more k (d + 1) k (in_parentheses m) le (tidy_parentheses k d m h);
  int = λ no. absurd (cc);
}

-- ---- literals

int_tidy : (k : ℕ) (i : ℤ) → 1 ≤ k → IsTidy k 0 (int_marks i) → IsTidyExpr k (literal_expr (val.Int i))
int_tidy k i some h = record { some = some; whole = tidy_more k 0 k (int_marks i) (omega arith) h; part = tidy_more k 0 k (int_marks i) (omega arith) h; int = λ is. h }

pub positive_tidy : (n : ℕ) → n < 2 ^ 64 → IsTidy 1 0 (int_marks (pos n))
positive_tidy n lt = tidy_token (tok.Number (digits_of n)) (number_sound n lt) refl

pub negative_tidy : (n : ℕ) → suc n < 2 ^ 64 → IsTidy 2 0 (int_marks (negsuc n))
negative_tidy n lt =
    let digits : Token = tok.Number (digits_of (suc n)) in
    record {
      laid = λ a s g. first_laid a s minus (glued digits ∷ []) (sign_sound sg.Minus) g (number_sound (suc n) lt, refl, tt);
      size = λ a. refl;
      opens = λ a. opens_token 0 (first a minus) (glued digits ∷ []) refl (opens_token 0 (glued digits) [] refl (opens_none 0));
    }

-- what is written of a number behind `-`, which is 0 or below
pub record BelowTidy (i : ℤ) : Type 0 where
  pub size : ℕ
  pub some : 1 ≤ size
  pub few : size ≤ 2
  pub tidy : IsTidy size 0 (int_marks i)

pub below_tidy : (n : ℕ) → n < 2 ^ 64 → BelowTidy (neg_ℤ (pos n))
below_tidy zero lt = record { size = 1; some = omega arith; few = omega arith; tidy = positive_tidy 0 lt }
below_tidy (suc n) lt = record { size = 2; some = omega arith; few = omega arith; tidy = negative_tidy n lt }

-- ---- each form, given its parts

negated_tidy : (k : ℕ) (p : WrittenExpr) (b : Bool) → p.is_int ≡ b → IsTidyExpr k p → IsTidy k k (if b then in_parentheses p.whole else p.part)
negated_tidy k p true is h = tidy_more k 1 k (in_parentheses p.whole) h.some (tidy_parentheses k 0 p.whole (h.int is))
negated_tidy k p false is h = h.part

behind_first : (k d : ℕ) (t : Token) (m : Written) → IsSound t → is_no_parenthesis t ≡ true → (b : Bool) → (b || is_loose t) ≡ true → IsTidy k d m → IsTidy (k + 1) d (λ a. first a t ∷ m b)
behind_first k d t m r np b free h = record {
  laid = λ a s g. first_laid a s t (m b) r g (h.laid b (is_loose t) free);
  size = λ a. let e : others_in (m b) ≡ k = h.size b in let one = ap one_if np in omega (arith, one, e);
  opens = λ a. opens_token d (first a t) (m b) np (h.opens b);
}

neg_tidy : (k : ℕ) (p : WrittenExpr) → IsTidyExpr k p → IsTidyExpr (k + 1) (simple (in_parentheses (λ a. first a minus ∷ negated p false)))
neg_tidy k p h = simple_tidy (k + 1) (in_parentheses (λ a. first a minus ∷ negated p false)) (omega arith)
    (tidy_parentheses (k + 1) k (λ a. first a minus ∷ negated p false) (behind_first k k minus (negated p) (sign_sound sg.Minus) refl false refl (negated_tidy k p p.is_int refl h)))

not_tidy : (k : ℕ) (p : WrittenExpr) → IsTidyExpr k p → IsTidyExpr (k + 1) (operation (λ a. first a (tok.Keyword kw.Not) ∷ p.part true))
not_tidy k p h = operation_tidy (k + 1) k (λ a. first a (tok.Keyword kw.Not) ∷ p.part true) (omega arith)
    (behind_first k k (tok.Keyword kw.Not) p.part (word_sound kw.Not) refl true refl h.part)

-- two things with a token that stands apart between them
pub beside_tidy : (j k d c : ℕ) (t : Token) (m n : Written) → IsSound t → is_no_parenthesis t ≡ true → IsTidy j d m → IsTidy k c n → IsTidy (j + 1 + k) (d + c) (λ a. m a ++ apart t ∷ n true)
beside_tidy j k d c t m n r np h g = record {
  laid = λ a s free. laid_append s (m a) (apart t ∷ n true) (h.laid a s free) (λ o. (r, refl, g.laid true (is_loose t) refl));
  size = λ a.
      let one = ap one_if np in
      let e = others-append (m a) (apart t ∷ n true) in
      let f = h.size a in
      let i = g.size true in
      omega (arith, one, e, f, i);
  opens = λ a. opens_append (d + c) (m a) (apart t ∷ n true) (opens_more d (d + c) (m a) (omega arith) (h.opens a))
      (opens_token (d + c) (apart t) (n true) np (opens_more c (d + c) (n true) (omega arith) (g.opens true)));
}

-- a reserved word or a sign
is_fixed : Token → Bool
is_fixed (tok.Keyword k) = true
is_fixed (tok.Sign s) = true
is_fixed _ = false

fixed_readable : (t : Token) → is_fixed t ≡ true → IsSound t
unfolding is_fixed
fixed_readable (tok.Keyword k) h = word_sound k
fixed_readable (tok.Sign s) h = sign_sound s
fixed_readable _ h = absurd (cc)

op_fixed : (o : Op) → is_fixed (op_token o) ≡ true
unfolding is_fixed
op_fixed op.Add = refl
op_fixed _ = refl

op_counts : (o : Op) → is_no_parenthesis (op_token o) ≡ true
op_counts op.Add = refl
op_counts _ = refl

plain_tidy : (j k : ℕ) (o : Op) (p q : WrittenExpr) → is_extreme o ≡ false → IsTidyExpr j p → IsTidyExpr k q → IsTidyExpr (j + 1 + k) (two_written o p q)
plain_tidy j k o p q plain h g =
    let P : Bool → Type 0 = λ b. IsTidyExpr (j + 1 + k) (if b then simple (called (op_token o) (parts_marks (p ∷ q ∷ []))) else operation (λ a. p.part a ++ apart (op_token o) ∷ q.part true)) in
    subst P (sym plain) (operation_tidy (j + 1 + k) (j + k) (λ a. p.part a ++ apart (op_token o) ∷ q.part true) (omega arith)
    (beside_tidy j k j k (op_token o) p.part q.part (fixed_readable (op_token o) (op_fixed o)) (op_counts o) h.part g.part))

call_tidy : (k : ℕ) (f : Word) (p : WrittenExpr) → IsTidyExpr k p → IsTidyExpr (k + 1) (simple (called (word_token f) (p.whole false)))
call_tidy k w.Abs p h = simple_tidy (k + 1) (called (tok.Keyword kw.Abs) (p.whole false)) (omega arith) (tidy_called k k kw.Abs (p.whole false) (tidy_at k k p.whole false h.whole))
call_tidy k w.Len p h = simple_tidy (k + 1) (called (tok.Keyword kw.Len) (p.whole false)) (omega arith) (tidy_called k k kw.Len (p.whole false) (tidy_at k k p.whole false h.whole))
call_tidy k w.Int p h = simple_tidy (k + 1) (called (tok.Keyword kw.Int) (p.whole false)) (omega arith) (tidy_called k k kw.Int (p.whole false) (tidy_at k k p.whole false h.whole))
call_tidy k w.TryInt p h = simple_tidy (k + 1) (called (tok.Keyword kw.TryInt) (p.whole false)) (omega arith) (tidy_called k k kw.TryInt (p.whole false) (tidy_at k k p.whole false h.whole))
call_tidy k w.Text p h = simple_tidy (k + 1) (called (tok.Keyword kw.Text) (p.whole false)) (omega arith) (tidy_called k k kw.Text (p.whole false) (tidy_at k k p.whole false h.whole))

-- ---- parts with commas between them

pub one_part : (k d : ℕ) (m : Written) → IsTidy k d m → IsTidy k d (λ a. m a ++ [])
one_part k d m h = record {
  laid = λ a s free. laid_append s (m a) [] (h.laid a s free) (λ t. tt);
  size = λ a. let e = others-append (m a) [] in let f = h.size a in omega (arith, e, f);
  opens = λ a. opens_append d (m a) [] (h.opens a) (opens_none d);
}

-- two things with an edge between them, which stands directly behind the first
pub edged_tidy : (j k d c : ℕ) (t : Token) (b : Bool) (m n : Written) → IsSound t → is_edge t ≡ true → is_no_parenthesis t ≡ true → (b || is_loose t) ≡ true → IsTidy j d m → IsTidy k c n →
    IsTidy (j + 1 + k) (d + c) (λ a. m a ++ glued t ∷ n b)
edged_tidy j k d c t b m n r edge np next h g = record {
  laid = λ a s free. laid_append s (m a) (glued t ∷ n b) (h.laid a s free) (λ o. edge_laid o t (n b) r edge (g.laid b (is_loose t) next));
  size = λ a.
      let one = ap one_if np in
      let e = others-append (m a) (glued t ∷ n b) in
      let f = h.size a in
      let i = g.size b in
      omega (arith, one, e, f, i);
  opens = λ a. opens_append (d + c) (m a) (glued t ∷ n b) (opens_more d (d + c) (m a) (omega arith) (h.opens a))
      (opens_token (d + c) (glued t) (n b) np (opens_more c (d + c) (n b) (omega arith) (g.opens b)));
}

pub comma_tidy : (j k d c : ℕ) (m n : Written) → IsTidy j d m → IsTidy k c n → IsTidy (j + 1 + k) (d + c) (λ a. m a ++ glued comma ∷ n true)
comma_tidy j k d c m n h g = edged_tidy j k d c comma true m n (sign_sound sg.Comma) refl refl refl h g

pair_tidy : (j k : ℕ) (o : Op) (word : Keyword) (p q : WrittenExpr) → IsTidyExpr j p → IsTidyExpr k q → IsTidyExpr (j + 1 + k + 1) (simple (called (tok.Keyword word) (parts_marks (p ∷ q ∷ []))))
pair_tidy j k o word p q h g =
    let parts : IsTidy (j + 1 + k) (j + k) (λ a. p.whole a ++ glued comma ∷ (q.whole true ++ [])) = comma_tidy j k j k p.whole (λ a. q.whole a ++ []) h.whole (one_part k k q.whole g.whole) in
    simple_tidy (j + 1 + k + 1) (called (tok.Keyword word) (parts_marks (p ∷ q ∷ []))) (omega arith)
    (tidy_more (j + 1 + k + 1) (j + k + 1) (j + 1 + k + 1) (called (tok.Keyword word) (parts_marks (p ∷ q ∷ []))) (omega arith)
    (tidy_called (j + 1 + k) (j + k) word (parts_marks (p ∷ q ∷ [])) (tidy_at (j + 1 + k) (j + k) (λ a. p.whole a ++ glued comma ∷ (q.whole true ++ [])) false parts)))

extreme_tidy : (j k : ℕ) (word : Keyword) (o : Op) (p q : WrittenExpr) → extreme_of word ≡ Some o → IsTidyExpr j p → IsTidyExpr k q → IsTidyExpr (j + 1 + k + 1) (two_written o p q)
extreme_tidy j k kw.Min o p q is h g =
    let P : Op → Type 0 = λ v. IsTidyExpr (j + 1 + k + 1) (two_written v p q) in
    subst P (some_same is) (pair_tidy j k op.Min kw.Min p q h g)
extreme_tidy j k kw.Max o p q is h g =
    let P : Op → Type 0 = λ v. IsTidyExpr (j + 1 + k + 1) (two_written v p q) in
    subst P (some_same is) (pair_tidy j k op.Max kw.Max p q h g)
extreme_tidy j k _ o p q is h g = absurd (cc)

choice_tidy : (i j k : ℕ) (c p : WrittenExpr) (q : Option WrittenExpr) → IsTidyExpr i c → IsTidyExpr j p → IsTidy k k (λ a. else_marks q) → IsTidyExpr (i + 1 + j + 1 + k + 1) (choice_written c p q)
choice_tidy i j k c p q h g f =
    let front : IsTidy (i + 1 + j) (i + j) (λ a. c.part a ++ apart (tok.Keyword kw.Then) ∷ p.part true) = beside_tidy i j i j (tok.Keyword kw.Then) c.part p.part (word_sound kw.Then) refl h.part g.part in
    let all : IsTidy (i + 1 + j + 1 + k) (i + j + k) (λ a. c.part a ++ apart (tok.Keyword kw.Then) ∷ p.part true ++ apart (tok.Keyword kw.Else) ∷ else_marks q) =
    beside_tidy (i + 1 + j) k (i + j) k (tok.Keyword kw.Else) (λ a. c.part a ++ apart (tok.Keyword kw.Then) ∷ p.part true) (λ a. else_marks q) (word_sound kw.Else) refl front f in
    operation_tidy (i + 1 + j + 1 + k + 1) (i + j + k) (λ a. first a (tok.Keyword kw.If) ∷ c.part true ++ apart (tok.Keyword kw.Then) ∷ p.part true ++ apart (tok.Keyword kw.Else) ∷ else_marks q) (omega arith)
    (behind_first (i + 1 + j + 1 + k) (i + j + k) (tok.Keyword kw.If) (λ a. c.part a ++ apart (tok.Keyword kw.Then) ∷ p.part true ++ apart (tok.Keyword kw.Else) ∷ else_marks q)
    (word_sound kw.If) refl true refl all)

-- what stands after `else` stands apart
else_apart : (k : ℕ) (p : WrittenExpr) → IsTidyExpr k p → IsTidy k k (λ a. else_marks (Some p))
else_apart k p h = record { laid = λ a s free. h.part.laid true s refl; size = λ a. h.part.size true; opens = λ a. h.part.opens true }

else_nothing : IsTidy 1 1 (λ a. else_marks None)
else_nothing = record {
  laid = λ a s free. (word_sound kw.Nothing, refl, tt);
  size = λ a. refl;
  opens = λ a. opens_token 1 (apart (tok.Keyword kw.Nothing)) [] refl (opens_none 1);
}

-- ---- what spells an expression has at least as many other tokens

pub record TidySpan (x : Expr) (ts rest : List Token) : Type 0 where
  pub size : ℕ
  pub tidy : IsTidyExpr size (written_expr x)
  pub fewer : size + others rest ≤ others ts
  pub readable : AllSound rest

pub record TidyParts (xs : List Expr) (ts rest : List Token) : Type 0 where
  pub size : ℕ
  pub depth : ℕ
  pub tidy : IsTidy size depth (λ a. parts_from a (map written_expr xs))
  pub commas : depth + length xs ≤ size + 1
  pub fewer : size + others rest ≤ others ts
  pub readable : AllSound rest

pub one_more : (t : Token) (ts : List Token) → is_no_parenthesis t ≡ true → others (t ∷ ts) ≡ others ts + 1
one_more t ts h = let one = ap one_if h in omega (arith, one)

operation_counts : (t : Token) (o : Op) → operation_of t ≡ Some o → is_no_parenthesis t ≡ true
operation_counts (tok.Sign sg.Open) o h = absurd (cc)
operation_counts (tok.Sign sg.Close) o h = absurd (cc)
operation_counts _ o h = refl

constant_tidy : (k : Keyword) (x : Expr) → constant_of k ≡ Some x → IsTidyExpr 1 (written_expr x)
constant_tidy kw.True x h = let P : Expr → Type 0 = λ y. IsTidyExpr 1 (written_expr y) in
    subst P (some_same h) (subst (IsTidyExpr 1) (written-Lit (val.Bool true)) (token_tidy (tok.Keyword kw.True) (word_sound kw.True) refl))
constant_tidy kw.False x h = let P : Expr → Type 0 = λ y. IsTidyExpr 1 (written_expr y) in
    subst P (some_same h) (subst (IsTidyExpr 1) (written-Lit (val.Bool false)) (token_tidy (tok.Keyword kw.False) (word_sound kw.False) refl))
constant_tidy kw.Place x h = let P : Expr → Type 0 = λ y. IsTidyExpr 1 (written_expr y) in
    subst P (some_same h) (subst (IsTidyExpr 1) written-Place (token_tidy (tok.Keyword kw.Place) (word_sound kw.Place) refl))
constant_tidy _ x h = absurd (cc)

int_there : (k : ℕ) (i v : ℤ) → v ≡ i → 1 ≤ k → IsTidy k 0 (int_marks i) → IsTidyExpr k (written_expr (e.Lit (val.Int v)))
int_there k i v same some h =
    let P : ℤ → Type 0 = λ z. IsTidyExpr k (written_expr (e.Lit (val.Int z))) in
    subst P (sym same) (subst (IsTidyExpr k) (written-Lit (val.Int i)) (int_tidy k i some h))

mutual
  pub expr_tidy : {l : Level} {x : Expr} {u : Bool} {ts rest : List Token} → Spells l x u ts rest → u ≡ false → AllSound ts → TidySpan x ts rest
  expr_tidy (Spells.tight d) h r = expr_tidy d h r
  expr_tidy (Spells.two {t = t} {o = o} {a = a} {b = b} {u = u} {v = v} {us = us} g is d f) h r =
      let p = expr_tidy d (left_false u v h) r in
      let q = expr_tidy f (right_false u v h) p.readable.1 in
      let one = one_more t us (operation_counts t o is.0) in
      record {
        size = p.size + 1 + q.size;
        tidy = subst (IsTidyExpr (p.size + 1 + q.size)) (written-Two o a b) (plain_tidy p.size q.size o (written_expr a) (written_expr b) (left_is_plain o (ap groups_left is.1 ∙ g)) p.tidy q.tidy);
        fewer = let m = p.fewer in let n = q.fewer in omega (arith, one, m, n);
        readable = q.readable;
      }
  expr_tidy (Spells.compare {t = t} {o = o} {a = a} {b = b} {u = u} {v = v} {us = us} is d f) h r =
      let p = expr_tidy d (left_false u v h) r in
      let q = expr_tidy f (right_false u v h) p.readable.1 in
      let one = one_more t us (operation_counts t o is.0) in
      record {
        size = p.size + 1 + q.size;
        tidy = subst (IsTidyExpr (p.size + 1 + q.size)) (written-Two o a b) (plain_tidy p.size q.size o (written_expr a) (written_expr b) (compare_is_plain o is.1) p.tidy q.tidy);
        fewer = let m = p.fewer in let n = q.fewer in omega (arith, one, m, n);
        readable = q.readable;
      }
  expr_tidy (Spells.not {x = x} d) h r =
      let p = expr_tidy d h r.1 in
      record { size = p.size + 1; tidy = subst (IsTidyExpr (p.size + 1)) (written-Not x) (not_tidy p.size (written_expr x) p.tidy); fewer = let m = p.fewer in omega (arith, m); readable = p.readable }
  expr_tidy (Spells.negative {n = n}) h r =
      let b = below_tidy (number_of n) (not_wide_negative (number_of n) h) in
      record {
        size = b.size;
        tidy = int_there b.size (neg_ℤ (pos (number_of n))) (negative_value (number_of n)) (negative_there (number_of n) h) b.some b.tidy;
        fewer = let m = b.few in omega (arith, m);
        readable = r.1.1;
      }
  expr_tidy (Spells.negate {x = x} free d) h r =
      let p = expr_tidy d h r.1 in
      record { size = p.size + 1; tidy = subst (IsTidyExpr (p.size + 1)) (written-Neg x) (neg_tidy p.size (written_expr x) p.tidy); fewer = let m = p.fewer in omega (arith, m); readable = p.readable }
  expr_tidy (Spells.number {n = n}) h r = record {
    size = 1;
    tidy = int_there 1 (pos (number_of n)) (positive_value (number_of n)) (positive_there (number_of n) h) (omega arith) (positive_tidy (number_of n) (not_wide (number_of n) h));
    fewer = omega arith;
    readable = r.1;
  }
  expr_tidy (Spells.text {raw = raw}) h r = record {
    size = 1;
    tidy = subst (IsTidyExpr 1) (written-Lit (val.Text (text_of raw))) (token_tidy (tok.Text (escaped (text_of raw))) (text_sound raw r.0) refl);
    fewer = omega arith;
    readable = r.1;
  }
  expr_tidy (Spells.name {n = n}) h r = record { size = 1; tidy = subst (IsTidyExpr 1) (written-Name n) (token_tidy (tok.Name n) r.0 refl); fewer = omega arith; readable = r.1 }
  expr_tidy (Spells.constant {k = k} {x = x} is) h r = record { size = 1; tidy = constant_tidy k x is; fewer = omega arith; readable = r.1 }
  expr_tidy (Spells.call {w = f} {x = x} is d) h r =
      let p = expr_tidy d h r.1.1 in
      record { size = p.size + 1; tidy = subst (IsTidyExpr (p.size + 1)) (written-Call f x) (call_tidy p.size f (written_expr x) p.tidy); fewer = let m = p.fewer in omega (arith, m); readable = p.readable.1 }
  expr_tidy (Spells.extreme {k = k} {o = o} {a = a} {b = b} {u = u} {v = v} is d f) h r =
      let p = expr_tidy d (left_false u v h) r.1.1 in
      let q = expr_tidy f (right_false u v h) p.readable.1 in
      record {
        size = p.size + 1 + q.size + 1;
        tidy = subst (IsTidyExpr (p.size + 1 + q.size + 1)) (written-Two o a b) (extreme_tidy p.size q.size k o (written_expr a) (written_expr b) is p.tidy q.tidy);
        fewer = let m = p.fewer in let n = q.fewer in omega (arith, m, n);
        readable = q.readable.1;
      }
  expr_tidy (Spells.choice {c = c} {a = a} {b = b} {u = u} {v = v} {w = z} d f g) h r =
      let uv : (u || v) ≡ false = left_false (u || v) z h in
      let p = expr_tidy d (left_false u v uv) r.1 in
      let q = expr_tidy f (right_false u v uv) p.readable.1 in
      let s = expr_tidy g (right_false (u || v) z h) q.readable.1 in
      record {
        size = p.size + 1 + q.size + 1 + s.size + 1;
        tidy = subst (IsTidyExpr (p.size + 1 + q.size + 1 + s.size + 1)) (written-If c a b)
            (choice_tidy p.size q.size s.size (written_expr c) (written_expr a) (Some (written_expr b)) p.tidy q.tidy (else_apart s.size (written_expr b) s.tidy));
        fewer = let m = p.fewer in let n = q.fewer in let o = s.fewer in omega (arith, m, n, o);
        readable = s.readable;
      }
  expr_tidy (Spells.choice_some {c = c} {a = a} {u = u} {v = v} d f) h r =
      let p = expr_tidy d (left_false u v h) r.1 in
      let q = expr_tidy f (right_false u v h) p.readable.1 in
      record {
        size = p.size + 1 + q.size + 1 + 1 + 1;
        tidy = subst (IsTidyExpr (p.size + 1 + q.size + 1 + 1 + 1)) (written-IfNone c a) (choice_tidy p.size q.size 1 (written_expr c) (written_expr a) None p.tidy q.tidy else_nothing);
        fewer = let m = p.fewer in let n = q.fewer in omega (arith, m, n);
        readable = q.readable.1.1;
      }
  expr_tidy (Spells.group d) h r =
      let p = expr_tidy d h r.1 in
      record { size = p.size; tidy = p.tidy; fewer = let m = p.fewer in omega (arith, m); readable = p.readable.1 }
  expr_tidy (Spells.tuple {xs = xs} low high m) h r =
      let p = parts_tidy m h r.1 in
      let ws = map written_expr xs in
      let P : List Mark → Type 0 = λ ms. AreTidy p.size p.depth ms in
      let parts : AreTidy p.size p.depth (parts_marks ws) = subst P (parts_from-false ws) (tidy_at p.size p.depth (λ a. parts_from a ws) false p.tidy) in
      let form = in_parentheses (λ a. parts_marks ws) in
      let le : p.depth + 1 ≤ p.size = let c = p.commas in omega (arith, c, low) in
      record {
        size = p.size;
        tidy = subst (IsTidyExpr p.size) (written-Tuple xs) (simple_tidy p.size form (omega (arith, le)) (tidy_more p.size (p.depth + 1) p.size form le (tidy_inside p.size p.depth (parts_marks ws) parts)));
        fewer = let n = p.fewer in omega (arith, n);
        readable = p.readable.1;
      }

  pub parts_tidy : {xs : List Expr} {u : Bool} {ts rest : List Token} → SpellsParts xs u ts rest → u ≡ false → AllSound ts → TidyParts xs ts rest
  parts_tidy (SpellsParts.last {x = x} d) h r =
      let p = expr_tidy d h r in
      record { size = p.size; depth = p.size; tidy = one_part p.size p.size (expr_marks x) p.tidy.whole; commas = omega arith; fewer = p.fewer; readable = p.readable }
  parts_tidy (SpellsParts.more {x = x} {xs = xs} {u = u} {v = v} d m) h r =
      let p = expr_tidy d (left_false u v h) r in
      let q = parts_tidy m (right_false u v h) p.readable.1 in
      let P : List Mark → Type 0 = λ ms. IsTidy (p.size + 1 + q.size) (p.size + q.depth) (λ a. expr_marks x a ++ ms) in
      record {
        size = p.size + 1 + q.size;
        depth = p.size + q.depth;
        tidy = subst P (sym (comma_before m)) (comma_tidy p.size q.size p.size q.depth (expr_marks x) (λ a. parts_from a (map written_expr xs)) p.tidy.whole q.tidy);
        commas = let c = q.commas in omega (arith, c);
        fewer = let i = p.fewer in let j = q.fewer in omega (arith, i, j);
        readable = q.readable;
      }
