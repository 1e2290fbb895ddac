-- In the canonical text of a line each token stands behind a space or may touch the one before it.
use Rattle.std.proofs.Common.{◌≡◌, suc, Bool, true, false, cond, ◌||◌, ◌&&◌, List, [], ◌∷◌, ◌++◌, map, Some, None, ℤ, pos, negsuc, refl, sym, subst}
use Rattle.std.proofs.lemmas.Bool.{and_from, and_parts, or_cases, or_left, or_right}
use Rattle.std.proofs.Common.{⊎_elim}
use Rattle.std.specs.Fmt.{signed_decimal}
use Rattle.loop_tokens.specs.declared.token.Token.{Token}
use Rattle.loop_tokens.specs.declared.token.Token.TheVariants as tok
use Rattle.loop_tokens.specs.declared.keyword.Keyword.TheVariants as kw
use Rattle.loop_tokens.specs.Literals.{escaped}
use Rattle.loop_data.specs.declared.value.Value.{Value}
use Rattle.loop_data.specs.declared.value.Value.TheVariants as val
use Rattle.loop_data.specs.declared.expr.Expr.{Expr, fold-roll-Expr, ind-Expr, map-Expr}
use Rattle.loop_data.specs.declared.expr.Expr.TheOpen.{Expr-F, Expr-F as e}
use Rattle.loop_layout.specs.Layout.{Mark, tokens_in, is_edge, is_minus, may_touch, AreReadable}
use Rattle.loop_layout.specs.Canonical.{Written, WrittenExpr, first, apart, glued, open_, close, comma, minus, int_marks, bool_word, value_marks, op_token, is_extreme, word_token, simple, in_parentheses, operation, after_comma, parts_marks, called, literal_expr, negated, write_step, written_expr}
use Rattle.loop_layout.specs.Laws.{AllReadable}

-- each mark stands apart or may touch the token before it, the first one behind t
abbrev pub spaced_behind : Token → List Mark → Bool
spaced_behind t [] = true
spaced_behind t (m ∷ ms) = (m.apart || may_touch t m.token) && spaced_behind m.token ms

abbrev pub spaced : List Mark → Bool
spaced [] = true
spaced (m ∷ ms) = spaced_behind m.token ms

-- marks that may stand behind any token
pub record Follows (ms : List Mark) : Type 0 where
  pub any : (u : Token) → spaced_behind u ms ≡ true

-- something may be written behind t, apart or not
abbrev pub Opens : Bool → Token → Type 0
Opens a t = (a || (is_edge t || is_minus t)) ≡ true

pub record Spaced (m : Written) : Type 0 where
  pub ok : (a : Bool) (t : Token) → Opens a t → spaced_behind t (m a) ≡ true

pub record SpacedExpr (w : WrittenExpr) : Type 0 where
  pub whole : Spaced w.whole
  pub part : Spaced w.part

pub spaced_append : (t : Token) (xs ys : List Mark) → spaced_behind t xs ≡ true → Follows ys → spaced_behind t (xs ++ ys) ≡ true
spaced_append t [] ys h f = f.any t
spaced_append t (m ∷ ms) ys h f =
    let both = and_parts (m.apart || may_touch t m.token) (spaced_behind m.token ms) h in
    and_from (m.apart || may_touch t m.token) (spaced_behind m.token (ms ++ ys)) both.0 (spaced_append m.token ms ys both.1 f)

pub follows_none : Follows []
follows_none = record { any = λ u. refl }

pub follows_apart : (u : Token) (ms : List Mark) → spaced_behind u ms ≡ true → Follows (apart u ∷ ms)
follows_apart u ms h = record { any = λ v. h }

pub follows_edge : (u : Token) (ms : List Mark) → is_edge u ≡ true → spaced_behind u ms ≡ true → Follows (glued u ∷ ms)
follows_edge u ms e h = record { any = λ v. and_from (may_touch v u) (spaced_behind u ms) (or_right (is_edge v) (is_edge u || is_minus v) (or_left (is_edge u) (is_minus v) e)) h }

pub follows_append : (xs ys : List Mark) → Follows xs → Follows ys → Follows (xs ++ ys)
follows_append xs ys f g = record { any = λ u. spaced_append u xs ys (f.any u) g }

opens_touch : (a : Bool) (t u : Token) → Opens a t → (a || may_touch t u) ≡ true
opens_touch true t u o = refl
opens_touch false t u o = ⊎_elim (λ h. or_left (is_edge t) (is_edge u || is_minus t) h)
    (λ h. or_right (is_edge t) (is_edge u || is_minus t) (or_right (is_edge u) (is_minus t) h)) (or_cases (is_edge t) (is_minus t) o)

pub first_spaced : (a : Bool) (t u : Token) (ms : List Mark) → Opens a t → spaced_behind u ms ≡ true → spaced_behind t (first a u ∷ ms) ≡ true
first_spaced a t u ms o h = and_from (a || may_touch t u) (spaced_behind u ms) (opens_touch a t u o) h

pub one_spaced : (u : Token) → Spaced (λ a. first a u ∷ [])
one_spaced u = record { ok = λ a t o. first_spaced a t u [] o refl }

close_follows : Follows (glued close ∷ [])
close_follows = follows_edge close [] refl refl

pub parentheses_spaced : (m : Written) → spaced_behind open_ (m false) ≡ true → Spaced (in_parentheses m)
parentheses_spaced m h = record { ok = λ a t o. first_spaced a t open_ (m false ++ glued close ∷ []) o (spaced_append open_ (m false) (glued close ∷ []) h close_follows) }

pub called_spaced : (word : Token) (inside : List Mark) → spaced_behind open_ inside ≡ true → Spaced (called word inside)
called_spaced word inside h = record {
  ok = λ a t o. first_spaced a t word (glued open_ ∷ inside ++ glued close ∷ []) o
      ((follows_edge open_ (inside ++ glued close ∷ []) refl (spaced_append open_ inside (glued close ∷ []) h close_follows)).any word);
}

-- ---- literals

pub int_spaced : (n : ℤ) → Spaced (int_marks n)
int_spaced (pos n) = record { ok = λ a t o. first_spaced a t (tok.Number (signed_decimal (pos n))) [] o refl }
int_spaced (negsuc n) = record { ok = λ a t o. first_spaced a t minus (glued (tok.Number (signed_decimal (pos (suc n)))) ∷ []) o refl }

pub value_spaced : (v : Value) → Spaced (value_marks v)
value_spaced (val.Int n) = int_spaced n
value_spaced (val.Bool b) = one_spaced (tok.Keyword (bool_word b))
value_spaced (val.Text s) = one_spaced (tok.Text (escaped s))
value_spaced _ = record { ok = λ a t o. refl }

-- ---- expressions

simple_spaced : (m : Written) → Spaced m → SpacedExpr (simple m)
simple_spaced m s = record { whole = s; part = s }

operation_spaced : (m : Written) → Spaced m → SpacedExpr (operation m)
operation_spaced m s = record { whole = s; part = parentheses_spaced m (s.ok false open_ refl) }

literal_spaced : (v : Value) → SpacedExpr (literal_expr v)
literal_spaced (val.Int n) = record { whole = int_spaced n; part = int_spaced n }
literal_spaced v = record { whole = value_spaced v; part = value_spaced v }

abbrev AllSpaced : List WrittenExpr → Type 0
AllSpaced [] = Unit {0}
AllSpaced (p ∷ ps) = SpacedExpr p × AllSpaced ps

after_spaced : (ps : List WrittenExpr) → AllSpaced ps → Follows (after_comma ps)
after_spaced [] h = follows_none
after_spaced (p ∷ ps) h = follows_edge comma (p.whole true ++ after_comma ps) refl
    (spaced_append comma (p.whole true) (after_comma ps) (h.0.whole.ok true comma refl) (after_spaced ps h.1))

parts_spaced : (ps : List WrittenExpr) → AllSpaced ps → spaced_behind open_ (parts_marks ps) ≡ true
parts_spaced [] h = refl
parts_spaced (p ∷ ps) h = spaced_append open_ (p.whole false) (after_comma ps) (h.0.whole.ok false open_ refl) (after_spaced ps h.1)

either_expr : (b : Bool) (v w : WrittenExpr) → SpacedExpr v → SpacedExpr w → SpacedExpr (cond b v w)
either_expr true v w s u = s
either_expr false v w s u = u

either_spaced : (b : Bool) (m n : Written) → Spaced m → Spaced n → Spaced (cond b m n)
either_spaced true m n s u = s
either_spaced false m n s u = u

negated_spaced : (p : WrittenExpr) → SpacedExpr p → Spaced (negated p)
negated_spaced p s = either_spaced p.is_int (in_parentheses p.whole) p.part (parentheses_spaced p.whole (s.whole.ok false open_ refl)) s.part

not_spaced : (p : WrittenExpr) → SpacedExpr p → Spaced (λ a. first a (tok.Keyword kw.Not) ∷ p.part true)
not_spaced p s = record { ok = λ a t o. first_spaced a t (tok.Keyword kw.Not) (p.part true) o (s.part.ok true (tok.Keyword kw.Not) refl) }

two_spaced : (u : Token) (p q : WrittenExpr) → SpacedExpr p → SpacedExpr q → Spaced (λ a. p.part a ++ apart u ∷ q.part true)
two_spaced u p q s r = record { ok = λ a t o. spaced_append t (p.part a) (apart u ∷ q.part true) (s.part.ok a t o) (follows_apart u (q.part true) (r.part.ok true u refl)) }

if_spaced : (c p : WrittenExpr) (other : List Mark) → SpacedExpr c → SpacedExpr p → spaced_behind (tok.Keyword kw.Else) other ≡ true →
    Spaced (λ a. first a (tok.Keyword kw.If) ∷ c.part true ++ apart (tok.Keyword kw.Then) ∷ p.part true ++ apart (tok.Keyword kw.Else) ∷ other)
if_spaced c p other s r h =
    let begin : Follows (apart (tok.Keyword kw.Then) ∷ p.part true) = follows_apart (tok.Keyword kw.Then) (p.part true) (r.part.ok true (tok.Keyword kw.Then) refl) in
    let end : Follows (apart (tok.Keyword kw.Else) ∷ other) = follows_apart (tok.Keyword kw.Else) other h in
    record {
      ok = λ a t o. first_spaced a t (tok.Keyword kw.If) ((c.part true ++ apart (tok.Keyword kw.Then) ∷ p.part true) ++ apart (tok.Keyword kw.Else) ∷ other) o
          (spaced_append (tok.Keyword kw.If) (c.part true ++ apart (tok.Keyword kw.Then) ∷ p.part true) (apart (tok.Keyword kw.Else) ∷ other)
          (spaced_append (tok.Keyword kw.If) (c.part true) (apart (tok.Keyword kw.Then) ∷ p.part true) (s.part.ok true (tok.Keyword kw.If) refl) begin) end);
    }

abbrev Such : Type 0
Such = (x : Expr) × SpacedExpr (written_expr x)

abbrev bare : Such → Expr
bare s = s.0

all_such : (ss : List Such) → AllSpaced (map written_expr (map bare ss))
all_such [] = tt
all_such (s ∷ ss) = (s.1, all_such ss)

layer_spaced : (y : Expr-F Such) → SpacedExpr (write_step (map-Expr Expr WrittenExpr written_expr (map-Expr Such Expr bare y)))
layer_spaced (e.Lit v) = literal_spaced v
layer_spaced (e.Name n) = simple_spaced _ (one_spaced (tok.Name n))
layer_spaced e.Place = simple_spaced _ (one_spaced (tok.Keyword kw.Place))
layer_spaced (e.Neg a) = simple_spaced _ (parentheses_spaced (λ b. first b minus ∷ negated (written_expr a.0) false)
    (first_spaced false open_ minus (negated (written_expr a.0) false) refl ((negated_spaced (written_expr a.0) a.1).ok false minus refl)))
layer_spaced (e.Not a) = operation_spaced _ (not_spaced (written_expr a.0) a.1)
layer_spaced (e.Two o a b) = either_expr (is_extreme o) (simple (called (op_token o) (parts_marks (written_expr a.0 ∷ written_expr b.0 ∷ []))))
    (operation (λ c. (written_expr a.0).part c ++ apart (op_token o) ∷ (written_expr b.0).part true))
    (simple_spaced _ (called_spaced (op_token o) (parts_marks (written_expr a.0 ∷ written_expr b.0 ∷ [])) (parts_spaced (written_expr a.0 ∷ written_expr b.0 ∷ []) (a.1, (b.1, tt)))))
    (operation_spaced _ (two_spaced (op_token o) (written_expr a.0) (written_expr b.0) a.1 b.1))
layer_spaced (e.Call w a) = simple_spaced _ (called_spaced (word_token w) ((written_expr a.0).whole false) (a.1.whole.ok false open_ refl))
layer_spaced (e.If c a None) = operation_spaced _ (if_spaced (written_expr c.0) (written_expr a.0) (apart (tok.Keyword kw.Nothing) ∷ []) c.1 a.1 refl)
layer_spaced (e.If c a (Some b)) = operation_spaced _ (if_spaced (written_expr c.0) (written_expr a.0) ((written_expr b.0).part true) c.1 a.1 (b.1.part.ok true (tok.Keyword kw.Else) refl))
layer_spaced (e.Tuple ss) = simple_spaced _ (parentheses_spaced (λ a. parts_marks (map written_expr (map bare ss))) (parts_spaced (map written_expr (map bare ss)) (all_such ss)))

pub expr_spaced : (x : Expr) → SpacedExpr (written_expr x)
expr_spaced = ind-Expr (λ x. SpacedExpr (written_expr x)) (λ x y is.
    subst SpacedExpr (sym (fold-roll-Expr WrittenExpr write_step x))
    (subst (λ w. SpacedExpr (write_step (map-Expr Expr WrittenExpr written_expr w))) is (layer_spaced y)))

-- ---- readable marks

pub readable_marks : (ms : List Mark) → AllReadable (tokens_in ms) → spaced ms ≡ true → AreReadable ms
readable_marks [] h s = AreReadable.none
readable_marks (m ∷ []) h s = AreReadable.last h.0
readable_marks (m ∷ n ∷ ms) h s =
    let both = and_parts (n.apart || may_touch m.token n.token) (spaced_behind n.token ms) s in
    AreReadable.more h.0 both.0 (readable_marks (n ∷ ms) h.1 both.1)
