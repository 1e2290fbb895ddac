-- What is written of a line has as many tokens that are no parentheses as the line's size says.
use Rattle.std.proofs.Common.{◌≡◌, ℕ, ◌+◌, Bool, true, false, cond, List, [], ◌∷◌, ◌++◌, map, Option, Some, None, pos, negsuc, refl, ap, sym, subst, arith}
use lib.IntN.{ℤ}
use Rattle.loop_tokens.specs.declared.token.Token.{Token}
use Rattle.loop_tokens.specs.declared.token.Token.TheVariants as tok
use Rattle.loop_tokens.specs.declared.keyword.Keyword.{Keyword}
use Rattle.loop_tokens.specs.declared.keyword.Keyword.TheVariants as kw
use Rattle.loop_tokens.specs.declared.sign.Sign.TheVariants as sg
use Rattle.loop_tokens.specs.Limits.{is_no_parenthesis}
use Rattle.loop_data.specs.declared.value.Value.{Value}
use Rattle.loop_data.specs.declared.value.Value.TheVariants as val
use Rattle.loop_data.specs.declared.expr.Op.{Op}
use Rattle.loop_data.specs.declared.expr.Op.TheVariants as op
use Rattle.loop_data.specs.declared.expr.Word.{Word}
use Rattle.loop_data.specs.declared.expr.Word.TheVariants as w
use Rattle.loop_data.specs.declared.expr.Expr.{Expr, roll-Expr, fold-roll-Expr, ind-Expr, map-Expr}
use Rattle.loop_data.specs.declared.expr.Expr.TheOpen.{Expr-F, Expr-F as e}
use Rattle.loop_data.specs.declared.expr.RangeExpr.{RangeExpr}
use Rattle.loop_data.specs.declared.tower.Kind.TheVariants as kind
use Rattle.loop_data.specs.declared.tower.TowerExpr.{TowerExpr, roll-TowerExpr, fold-roll-TowerExpr, ind-TowerExpr, map-TowerExpr}
use Rattle.loop_data.specs.declared.tower.TowerExpr.TheVariants as tower
use Rattle.loop_data.specs.declared.tower.TowerExpr.TheOpen.{TowerExpr-F, TowerExpr-F as t}
use Rattle.loop_data.specs.declared.head.Axis.{Axis, roll-Axis, fold-roll-Axis, ind-Axis, map-Axis}
use Rattle.loop_data.specs.declared.head.Axis.TheOpen.{Axis-F, Axis-F as x}
use Rattle.loop_data.specs.declared.head.Inner.{Inner}
use Rattle.loop_grammar.specs.declared.line.Line.{Line}
use Rattle.loop_grammar.specs.declared.line.Line.TheVariants as l
use Rattle.loop_grammar.specs.LineSizes.{literal_size, after_commas, with_commas, two_size, size_step, expr_size, step_size, range_size, axis_layer, axis_size, name_size, head_size, inner_size, tower_layer, tower_size, start_size, folded_size, line_size}
use Rattle.loop_layout.specs.Layout.{Mark}
use Rattle.loop_layout.specs.Canonical.{Written, WrittenExpr, first, glued, apart, close, comma, colon, minus, int_marks, value_marks, op_token, is_extreme, word_token, simple, in_parentheses, operation, after_comma, parts_marks, called, literal_expr, negated, write_step, written_expr, expr_marks, step_marks, range_marks, more_listed, listed, axis_step, axis_marks, name_marks, pattern_marks, inner_marks, head_marks, kind_word, tower_step, tower_marks, start_marks, folded_marks, line_marks}
use Rattle.loop_writer.proofs.Tidy.{others_in, others-append}

-- k of the tokens are no parentheses, with or without a space before the first
abbrev pub Sized : ℕ → Written → Type 0
Sized k m = (a : Bool) → others_in (m a) ≡ k

pub record SizedExpr (k : ℕ) (p : WrittenExpr) : Type 0 where
  pub whole : Sized k p.whole
  pub part : Sized k p.part

-- ---- parentheses, calls and commas

closed : (ms : List Mark) → others_in (ms ++ glued close ∷ []) ≡ others_in ms
closed ms = let e = others-append ms (glued close ∷ []) in omega (arith, e)

inside : (m : Written) (k : ℕ) → others_in (m false) ≡ k → Sized k (in_parentheses m)
inside m k h a = let e = closed (m false) in omega (arith, e, h)

call_sized : (word : Keyword) (ms : List Mark) (k : ℕ) → others_in ms ≡ k → Sized (1 + k) (called (tok.Keyword word) ms)
call_sized word ms k h a = let e = closed ms in omega (arith, e, h)

word_sized : (f : Word) (ms : List Mark) (k : ℕ) → others_in ms ≡ k → Sized (1 + k) (called (word_token f) ms)
word_sized w.Abs ms k h = call_sized kw.Abs ms k h
word_sized w.Len ms k h = call_sized kw.Len ms k h
word_sized w.Int ms k h = call_sized kw.Int ms k h
word_sized w.TryInt ms k h = call_sized kw.TryInt ms k h
word_sized w.Text ms k h = call_sized kw.Text ms k h

simple_sized : (k : ℕ) (m : Written) → Sized k m → SizedExpr k (simple m)
simple_sized k m h = record { whole = h; part = h }

operation_sized : (k : ℕ) (m : Written) → Sized k m → SizedExpr k (operation m)
operation_sized k m h = record { whole = h; part = inside m k (h false) }

-- ---- expressions

int_sized : (i : ℤ) → Sized (literal_size (val.Int i)) (int_marks i)
int_sized (pos n) a = refl
int_sized (negsuc n) a = refl

literal_sized : (v : Value) → SizedExpr (literal_size v) (literal_expr v)
literal_sized (val.Int i) = record { whole = int_sized i; part = int_sized i }
literal_sized (val.Bool b) = record { whole = λ a. refl; part = λ a. refl }
literal_sized (val.Text s) = record { whole = λ a. refl; part = λ a. refl }
literal_sized _ = record { whole = λ a. refl; part = λ a. refl }

negated_either : (b : Bool) (k : ℕ) (p : WrittenExpr) → SizedExpr k p → Sized k (cond b (in_parentheses p.whole) p.part)
negated_either true k p h = inside p.whole k (h.whole false)
negated_either false k p h = h.part

neg_sized : (k : ℕ) (p : WrittenExpr) → SizedExpr k p → SizedExpr (1 + k) (simple (in_parentheses (λ a. first a minus ∷ negated p false)))
neg_sized k p h =
    let e = negated_either p.is_int k p h false in
    simple_sized (1 + k) (in_parentheses (λ a. first a minus ∷ negated p false)) (inside (λ a. first a minus ∷ negated p false) (1 + k) (omega (arith, e)))

not_sized : (k : ℕ) (p : WrittenExpr) → SizedExpr k p → SizedExpr (1 + k) (operation (λ a. first a (tok.Keyword kw.Not) ∷ p.part true))
not_sized k p h = operation_sized (1 + k) (λ a. first a (tok.Keyword kw.Not) ∷ p.part true) (λ a. let e = h.part true in omega (arith, e))

abbrev Such : Type 0
Such = (x : Expr) × SizedExpr (expr_size x) (written_expr x)

abbrev bare : Such → Expr
bare s = s.0

after_sized : (ss : List Such) → others_in (after_comma (map written_expr (map bare ss))) ≡ after_commas (map expr_size (map bare ss))
after_sized [] = refl
after_sized (s ∷ ss) =
    let e = others-append ((written_expr s.0).whole true) (after_comma (map written_expr (map bare ss))) in
    let f = s.1.whole true in
    let g = after_sized ss in
    omega (arith, e, f, g)

parts_sized : (ss : List Such) → others_in (parts_marks (map written_expr (map bare ss))) ≡ with_commas (map expr_size (map bare ss))
parts_sized [] = refl
parts_sized (s ∷ ss) =
    let e = others-append ((written_expr s.0).whole false) (after_comma (map written_expr (map bare ss))) in
    let f = s.1.whole false in
    let g = after_sized ss in
    omega (arith, e, f, g)

between_sized : (n m : ℕ) (p q : WrittenExpr) (u : Token) → is_no_parenthesis u ≡ true → SizedExpr n p → SizedExpr m q → SizedExpr (n + (1 + m)) (operation (λ a. p.part a ++ apart u ∷ q.part true))
between_sized n m p q u np h g = operation_sized (n + (1 + m)) (λ a. p.part a ++ apart u ∷ q.part true) (λ a.
    let one : others_in (apart u ∷ q.part true) ≡ 1 + others_in (q.part true) = ap (λ b. cond b 1 0 + others_in (q.part true)) np in
    let e = others-append (p.part a) (apart u ∷ q.part true) in
    let f = h.part a in
    let i = g.part true in
    omega (arith, one, e, f, i))

pair_sized : (n m : ℕ) (word : Keyword) (p q : WrittenExpr) → SizedExpr n p → SizedExpr m q →
    SizedExpr (1 + with_commas (n ∷ m ∷ [])) (simple (called (tok.Keyword word) (parts_marks (p ∷ q ∷ []))))
pair_sized n m word p q h g =
    let e = others-append (p.whole false) (after_comma (q ∷ [])) in
    let f = others-append (q.whole true) [] in
    let i = h.whole false in
    let j = g.whole true in
    simple_sized (1 + with_commas (n ∷ m ∷ [])) (called (tok.Keyword word) (parts_marks (p ∷ q ∷ []))) (call_sized word (parts_marks (p ∷ q ∷ [])) (with_commas (n ∷ m ∷ [])) (omega (arith, e, f, i, j)))

two_sized : (o : Op) (n m : ℕ) (p q : WrittenExpr) → SizedExpr n p → SizedExpr m q →
    SizedExpr (two_size o n m) (cond (is_extreme o) (simple (called (op_token o) (parts_marks (p ∷ q ∷ [])))) (operation (λ a. p.part a ++ apart (op_token o) ∷ q.part true)))
two_sized op.Min n m p q h g = pair_sized n m kw.Min p q h g
two_sized op.Max n m p q h g = pair_sized n m kw.Max p q h g
two_sized op.Add n m p q h g = between_sized n m p q (tok.Sign sg.Plus) refl h g
two_sized op.Sub n m p q h g = between_sized n m p q (tok.Sign sg.Minus) refl h g
two_sized op.Mul n m p q h g = between_sized n m p q (tok.Sign sg.Star) refl h g
two_sized op.Div n m p q h g = between_sized n m p q (tok.Keyword kw.Div) refl h g
two_sized op.Rem n m p q h g = between_sized n m p q (tok.Keyword kw.Rem) refl h g
two_sized op.Mod n m p q h g = between_sized n m p q (tok.Keyword kw.Mod) refl h g
two_sized op.Join n m p q h g = between_sized n m p q (tok.Sign sg.Join) refl h g
two_sized op.Eq n m p q h g = between_sized n m p q (tok.Sign sg.Equal) refl h g
two_sized op.Ne n m p q h g = between_sized n m p q (tok.Sign sg.NotEqual) refl h g
two_sized op.Lt n m p q h g = between_sized n m p q (tok.Sign sg.Less) refl h g
two_sized op.Le n m p q h g = between_sized n m p q (tok.Sign sg.AtMost) refl h g
two_sized op.Gt n m p q h g = between_sized n m p q (tok.Sign sg.Greater) refl h g
two_sized op.Ge n m p q h g = between_sized n m p q (tok.Sign sg.AtLeast) refl h g
two_sized op.And n m p q h g = between_sized n m p q (tok.Keyword kw.And) refl h g
two_sized op.Or n m p q h g = between_sized n m p q (tok.Keyword kw.Or) refl h g

choice_sized : (k n m : ℕ) (c p : WrittenExpr) (others : List Mark) → SizedExpr k c → SizedExpr n p → others_in others ≡ m →
    SizedExpr (1 + (k + (1 + (n + (1 + m))))) (operation (λ a. first a (tok.Keyword kw.If) ∷ c.part true ++ apart (tok.Keyword kw.Then) ∷ p.part true ++ apart (tok.Keyword kw.Else) ∷ others))
choice_sized k n m c p others h g f =
    operation_sized (1 + (k + (1 + (n + (1 + m))))) (λ a. first a (tok.Keyword kw.If) ∷ c.part true ++ apart (tok.Keyword kw.Then) ∷ p.part true ++ apart (tok.Keyword kw.Else) ∷ others) (λ a.
    let i = others-append (c.part true ++ apart (tok.Keyword kw.Then) ∷ p.part true) (apart (tok.Keyword kw.Else) ∷ others) in
    let j = others-append (c.part true) (apart (tok.Keyword kw.Then) ∷ p.part true) in
    let u = h.part true in
    let v = g.part true in
    omega (arith, i, j, u, v, f))

layer : (y : Expr-F Such) → SizedExpr (size_step (map-Expr Expr ℕ expr_size (map-Expr Such Expr bare y))) (write_step (map-Expr Expr WrittenExpr written_expr (map-Expr Such Expr bare y)))
layer (e.Lit v) = literal_sized v
layer (e.Name n) = record { whole = λ a. refl; part = λ a. refl }
layer e.Place = record { whole = λ a. refl; part = λ a. refl }
layer (e.Neg a) = neg_sized (expr_size a.0) (written_expr a.0) a.1
layer (e.Not a) = not_sized (expr_size a.0) (written_expr a.0) a.1
layer (e.Two o a b) = two_sized o (expr_size a.0) (expr_size b.0) (written_expr a.0) (written_expr b.0) a.1 b.1
layer (e.Call f a) = simple_sized (1 + expr_size a.0) (called (word_token f) ((written_expr a.0).whole false)) (word_sized f ((written_expr a.0).whole false) (expr_size a.0) (a.1.whole false))
layer (e.If c a None) = choice_sized (expr_size c.0) (expr_size a.0) 1 (written_expr c.0) (written_expr a.0) (apart (tok.Keyword kw.Nothing) ∷ []) c.1 a.1 refl
layer (e.If c a (Some b)) = choice_sized (expr_size c.0) (expr_size a.0) (expr_size b.0) (written_expr c.0) (written_expr a.0) ((written_expr b.0).part true) c.1 a.1 (b.1.part true)
layer (e.Tuple ss) =
    let k = with_commas (map expr_size (map bare ss)) in
    let ms = parts_marks (map written_expr (map bare ss)) in
    simple_sized k (in_parentheses (λ a. ms)) (inside (λ a. ms) k (parts_sized ss))

pub expr_sized : (p : Expr) → SizedExpr (expr_size p) (written_expr p)
expr_sized = ind-Expr (λ p. SizedExpr (expr_size p) (written_expr p)) (λ p y is.
    subst (λ k. SizedExpr k (written_expr (roll-Expr p))) (sym (fold-roll-Expr ℕ size_step p)) (subst (λ m. SizedExpr (size_step (map-Expr Expr ℕ expr_size p)) m) (sym (fold-roll-Expr WrittenExpr write_step p))
    (subst (λ z. SizedExpr (size_step (map-Expr Expr ℕ expr_size z)) (write_step (map-Expr Expr WrittenExpr written_expr z))) is (layer y))))

-- ---- ranges and heads

step_sized : (o : Option Expr) → others_in (step_marks o) ≡ step_size o
step_sized None = refl
step_sized (Some p) = let e = (expr_sized p).whole false in omega (arith, e)

pub range_sized : (r : RangeExpr) → Sized (range_size r) (range_marks r)
range_sized r a =
    let i = others-append (expr_marks r.first a ++ step_marks r.step) (glued colon ∷ expr_marks r.last false) in
    let j = others-append (expr_marks r.first a) (step_marks r.step) in
    let u = (expr_sized r.first).whole a in
    let v = step_sized r.step in
    let z = (expr_sized r.last).whole false in
    omega (arith, i, j, u, v, z)

-- things with their sizes
module _ {A : Type 0} (f : A → Written) (k : A → ℕ) where
  more_sized : (xs : List A) → ((y : A) → Sized (k y) (f y)) → others_in (more_listed (map f xs)) ≡ after_commas (map k xs)
  more_sized [] h = refl
  more_sized (y ∷ xs) h =
      let e = others-append (f y true) (more_listed (map f xs)) in
      let i = h y true in
      let j = more_sized xs h in
      omega (arith, e, i, j)

  listed_sized : (xs : List A) → ((y : A) → Sized (k y) (f y)) → Sized (with_commas (map k xs)) (listed (map f xs))
  listed_sized [] h a = refl
  listed_sized (y ∷ xs) h a =
      let e = others-append (f y a) (more_listed (map f xs)) in
      let i = h y a in
      let j = more_sized xs h in
      omega (arith, e, i, j)

abbrev SuchAxis : Type 0
SuchAxis = (p : Axis) × Sized (axis_size p) (axis_marks p)

abbrev bare_axis : SuchAxis → Axis
bare_axis s = s.0

more_axes : (ss : List SuchAxis) → others_in (more_listed (map axis_marks (map bare_axis ss))) ≡ after_commas (map axis_size (map bare_axis ss))
more_axes [] = refl
more_axes (s ∷ ss) =
    let e = others-append (axis_marks s.0 true) (more_listed (map axis_marks (map bare_axis ss))) in
    let i = s.1 true in
    let j = more_axes ss in
    omega (arith, e, i, j)

listed_axes : (ss : List SuchAxis) → Sized (with_commas (map axis_size (map bare_axis ss))) (listed (map axis_marks (map bare_axis ss)))
listed_axes [] a = refl
listed_axes (s ∷ ss) a =
    let e = others-append (axis_marks s.0 a) (more_listed (map axis_marks (map bare_axis ss))) in
    let i = s.1 a in
    let j = more_axes ss in
    omega (arith, e, i, j)

layer_axis : (y : Axis-F SuchAxis) → Sized (axis_layer (map-Axis Axis ℕ axis_size (map-Axis SuchAxis Axis bare_axis y))) (axis_step (map-Axis Axis Written axis_marks (map-Axis SuchAxis Axis bare_axis y)))
layer_axis (x.Steps r) = range_sized r
layer_axis (x.Col n) = λ a. refl
layer_axis (x.Zip ss) = call_sized kw.Zip (listed (map axis_marks (map bare_axis ss)) false) (with_commas (map axis_size (map bare_axis ss))) (listed_axes ss false)

axis_sized : (p : Axis) → Sized (axis_size p) (axis_marks p)
axis_sized = ind-Axis (λ p. Sized (axis_size p) (axis_marks p)) (λ p y is.
    subst (λ k. Sized k (axis_marks (roll-Axis p))) (sym (fold-roll-Axis ℕ axis_layer p)) (subst (λ m. Sized (axis_layer (map-Axis Axis ℕ axis_size p)) m) (sym (fold-roll-Axis Written axis_step p))
    (subst (λ z. Sized (axis_layer (map-Axis Axis ℕ axis_size z)) (axis_step (map-Axis Axis Written axis_marks z))) is (layer_axis y))))

head_sized : (product : Bool) (ps : List Axis) → Sized (head_size product ps) (head_marks ps product)
head_sized true ps = call_sized kw.Product (listed (map axis_marks ps) false) (with_commas (map axis_size ps)) (listed_sized axis_marks axis_size ps axis_sized false)
head_sized false ps = listed_sized axis_marks axis_size ps axis_sized

pattern_sized : (ns : List (List ℕ)) → Sized (with_commas (map name_size ns)) (pattern_marks ns)
pattern_sized [] a = refl
pattern_sized (n ∷ []) a = refl
pattern_sized (n ∷ m ∷ ns) a =
    let all : List (List ℕ) = n ∷ m ∷ ns in
    inside (listed (map name_marks all)) (with_commas (map name_size all)) (listed_sized name_marks name_size all (λ o b. refl) false) a

inner_sized : (hs : List Inner) → others_in (inner_marks hs) ≡ inner_size hs
inner_sized [] = refl
inner_sized (h ∷ hs) =
    let e = others-append (range_marks h.range true) (inner_marks hs) in
    let i = range_sized h.range true in
    let j = inner_sized hs in
    omega (arith, e, i, j)

-- ---- towers

abbrev SuchTower : Type 0
SuchTower = (p : TowerExpr) × Sized (tower_size p) (tower_marks p)

abbrev bare_tower : SuchTower → TowerExpr
bare_tower s = s.0

layer_tower : (y : TowerExpr-F SuchTower) →
    Sized (tower_layer (map-TowerExpr TowerExpr ℕ tower_size (map-TowerExpr SuchTower TowerExpr bare_tower y))) (tower_step (map-TowerExpr TowerExpr Written tower_marks (map-TowerExpr SuchTower TowerExpr bare_tower y)))
layer_tower (t.Leaf d p) = call_sized (kind_word d) (expr_marks p false) (expr_size p) ((expr_sized p).whole false)
layer_tower t.Count = λ a. refl
layer_tower (t.Grouped key s) =
    let ms = expr_marks key false ++ glued comma ∷ tower_marks s.0 true in
    let e = others-append (expr_marks key false) (glued comma ∷ tower_marks s.0 true) in
    let i = (expr_sized key).whole false in
    let j = s.1 true in
    call_sized kw.Group ms (expr_size key + (1 + tower_size s.0)) (omega (arith, e, i, j))
layer_tower (t.Both s u) =
    let ms = tower_marks s.0 false ++ glued comma ∷ tower_marks u.0 true in
    let e = others-append (tower_marks s.0 false) (glued comma ∷ tower_marks u.0 true) in
    let i = s.1 false in
    let j = u.1 true in
    call_sized kw.Both ms (tower_size s.0 + (1 + tower_size u.0)) (omega (arith, e, i, j))

tower_sized : (p : TowerExpr) → Sized (tower_size p) (tower_marks p)
tower_sized = ind-TowerExpr (λ p. Sized (tower_size p) (tower_marks p)) (λ p y is.
    subst (λ k. Sized k (tower_marks (roll-TowerExpr p))) (sym (fold-roll-TowerExpr ℕ tower_layer p))
    (subst (λ m. Sized (tower_layer (map-TowerExpr TowerExpr ℕ tower_size p)) m) (sym (fold-roll-TowerExpr Written tower_step p))
    (subst (λ z. Sized (tower_layer (map-TowerExpr TowerExpr ℕ tower_size z)) (tower_step (map-TowerExpr TowerExpr Written tower_marks z))) is (layer_tower y))))

value_sized : (v : Value) → Sized (literal_size v) (value_marks v)
value_sized (val.Int i) = int_sized i
value_sized (val.Bool b) = λ a. refl
value_sized (val.Text s) = λ a. refl
value_sized _ = λ a. refl

start_sized : (start : Option Value) → others_in (start_marks start) ≡ start_size start
start_sized None = refl
start_sized (Some v) = let e = value_sized v true in omega (arith, e)

assigned_sized : (p : TowerExpr) (start : Option Value) → others_in (apart (tok.Sign sg.Assign) ∷ tower_marks p true ++ start_marks start) ≡ 1 + (tower_size p + start_size start)
assigned_sized p start =
    let e = others-append (tower_marks p true) (start_marks start) in
    let i = tower_sized p true in
    let j = start_sized start in
    omega (arith, e, i, j)

folded_sized : (p : TowerExpr) (start : Option Value) → others_in (folded_marks p start) ≡ folded_size p start
folded_sized (tower.Leaf kind.Sum p) None = let e = (expr_sized p).whole true in omega (arith, e)
folded_sized p start = assigned_sized p start

-- ---- lines

pub line_sized : (form : Line) → others_in (line_marks form) ≡ line_size form
line_sized l.SkipFaults = refl
line_sized (l.Var n v) = let e = value_sized v true in omega (arith, e)
line_sized (l.Init n v) = let e = value_sized v true in omega (arith, e)
line_sized (l.For h) =
    let front = pattern_marks h.names true ++ apart (tok.Keyword kw.In) ∷ head_marks h.axes h.product true in
    let i = others-append front (inner_marks h.inner) in
    let j = others-append (pattern_marks h.names true) (apart (tok.Keyword kw.In) ∷ head_marks h.axes h.product true) in
    let u = pattern_sized h.names true in
    let v = head_sized h.product h.axes true in
    let z = inner_sized h.inner in
    omega (arith, i, j, u, v, z)
line_sized (l.Let ns p) =
    let i = others-append (pattern_marks ns true) (apart (tok.Sign sg.Assign) ∷ expr_marks p true) in
    let u = pattern_sized ns true in
    let v = (expr_sized p).whole true in
    omega (arith, i, u, v)
line_sized (l.Set n p) = let e = (expr_sized p).whole true in omega (arith, e)
line_sized (l.If p) = let e = (expr_sized p).whole true in omega (arith, e)
line_sized (l.ElseIf p) = let e = (expr_sized p).whole true in omega (arith, e)
line_sized l.Else = refl
line_sized (l.Keep n p) = let e = (expr_sized p).whole true in omega (arith, e)
line_sized (l.Reduce n p start) = let e = folded_sized p start in omega (arith, e)
line_sized l.Continue = refl
line_sized l.Break = refl
line_sized l.End = refl
line_sized (l.Print n) = refl
