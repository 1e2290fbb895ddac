-- In the canonical text of a line each token stands behind a space or may touch the one before it: heads, towers and lines.
use Rattle.std.proofs.Common.{◌≡◌, ℕ, Bool, true, false, List, [], ◌∷◌, ◌++◌, map, Option, Some, None, refl, sym, subst}
use Rattle.loop_tokens.specs.declared.token.Token.TheVariants as tok
use Rattle.loop_tokens.specs.declared.keyword.Keyword.TheVariants as kw
use Rattle.loop_tokens.specs.declared.keyword.AtWord.TheVariants as at
use Rattle.loop_tokens.specs.declared.sign.Sign.TheVariants as sg
use Rattle.loop_tokens.specs.Literals.{escaped}
use Rattle.loop_data.specs.declared.value.Value.{Value}
use Rattle.loop_data.specs.declared.expr.Expr.{Expr}
use Rattle.loop_data.specs.declared.expr.RangeExpr.{RangeExpr}
use Rattle.loop_data.specs.declared.tower.Kind.TheVariants as kind
use Rattle.loop_data.specs.declared.tower.TowerExpr.{TowerExpr, fold-roll-TowerExpr, ind-TowerExpr, map-TowerExpr}
use Rattle.loop_data.specs.declared.tower.TowerExpr.TheVariants as tower
use Rattle.loop_data.specs.declared.tower.TowerExpr.TheOpen.{TowerExpr-F, TowerExpr-F as t}
use Rattle.loop_data.specs.declared.head.Axis.{Axis, fold-roll-Axis, ind-Axis, map-Axis}
use Rattle.loop_data.specs.declared.head.Axis.TheOpen.{Axis-F, Axis-F as x}
use Rattle.loop_data.specs.declared.head.Inner.{Inner}
use Rattle.loop_grammar.specs.declared.line.Line.{Line}
use Rattle.loop_grammar.specs.declared.line.Line.TheVariants as l
use Rattle.loop_layout.specs.Canonical.{Written, apart, glued, open_, comma, colon, value_marks, expr_marks, step_marks, range_marks, more_listed, listed, axis_step, axis_marks, name_marks, pattern_marks, inner_marks, head_marks, kind_word, tower_step, tower_marks, start_marks, folded_marks, line_marks}
use Rattle.loop_layout.specs.Laws.{CanonicalSpaces}
use Rattle.loop_layout.proofs.Spacing.{spaced, Follows, Spaced, spaced_append, follows_none, follows_apart, follows_edge, one_spaced, parentheses_spaced, called_spaced, value_spaced, expr_spaced, readable_marks}

whole_spaced : (p : Expr) → Spaced (expr_marks p)
whole_spaced p = (expr_spaced p).whole

-- ---- ranges and axes

step_follows : (s : Option Expr) → Follows (step_marks s)
step_follows None = follows_none
step_follows (Some s) = follows_edge colon (expr_marks s false) refl ((whole_spaced s).ok false colon refl)

range_spaced : (r : RangeExpr) → Spaced (range_marks r)
range_spaced r = record {
  ok = λ a u o. spaced_append u (expr_marks r.first a ++ step_marks r.step) (glued colon ∷ expr_marks r.last false)
      (spaced_append u (expr_marks r.first a) (step_marks r.step) ((whole_spaced r.first).ok a u o) (step_follows r.step))
      (follows_edge colon (expr_marks r.last false) refl ((whole_spaced r.last).ok false colon refl));
}

abbrev AllWritten : List Written → Type 0
AllWritten [] = Unit {0}
AllWritten (m ∷ ms) = Spaced m × AllWritten ms

more_follows : (ms : List Written) → AllWritten ms → Follows (more_listed ms)
more_follows [] h = follows_none
more_follows (m ∷ ms) h = follows_edge comma (m true ++ more_listed ms) refl (spaced_append comma (m true) (more_listed ms) (h.0.ok true comma refl) (more_follows ms h.1))

listed_spaced : (ms : List Written) → AllWritten ms → Spaced (listed ms)
listed_spaced [] h = record { ok = λ a u o. refl }
listed_spaced (m ∷ ms) h = record { ok = λ a u o. spaced_append u (m a) (more_listed ms) (h.0.ok a u o) (more_follows ms h.1) }

abbrev SuchAxis : Type 0
SuchAxis = (p : Axis) × Spaced (axis_marks p)

abbrev bare_axis : SuchAxis → Axis
bare_axis s = s.0

all_axes : (ss : List SuchAxis) → AllWritten (map axis_marks (map bare_axis ss))
all_axes [] = tt
all_axes (s ∷ ss) = (s.1, all_axes ss)

layer_axis : (y : Axis-F SuchAxis) → Spaced (axis_step (map-Axis Axis Written axis_marks (map-Axis SuchAxis Axis bare_axis y)))
layer_axis (x.Steps r) = range_spaced r
layer_axis (x.Col n) = called_spaced (tok.Keyword kw.Col) (glued (tok.Text (escaped n)) ∷ []) refl
layer_axis (x.Zip ss) = called_spaced (tok.Keyword kw.Zip) (listed (map axis_marks (map bare_axis ss)) false) ((listed_spaced (map axis_marks (map bare_axis ss)) (all_axes ss)).ok false open_ refl)

pub axis_spaced : (p : Axis) → Spaced (axis_marks p)
axis_spaced = ind-Axis (λ p. Spaced (axis_marks p)) (λ p y is.
    subst Spaced (sym (fold-roll-Axis Written axis_step p))
    (subst (λ w. Spaced (axis_step (map-Axis Axis Written axis_marks w))) is (layer_axis y)))

axes_spaced : (ps : List Axis) → AllWritten (map axis_marks ps)
axes_spaced [] = tt
axes_spaced (p ∷ ps) = (axis_spaced p, axes_spaced ps)

-- ---- heads

names_spaced : (ns : List (List ℕ)) → AllWritten (map name_marks ns)
names_spaced [] = tt
names_spaced (n ∷ ns) = (one_spaced (tok.Name n), names_spaced ns)

pattern_spaced : (ns : List (List ℕ)) → Spaced (pattern_marks ns)
pattern_spaced [] = record { ok = λ a u o. refl }
pattern_spaced (n ∷ []) = one_spaced (tok.Name n)
pattern_spaced (n ∷ m ∷ ns) = record { ok = λ a u o. (parentheses_spaced (listed (map name_marks (n ∷ m ∷ ns))) ((listed_spaced (map name_marks (n ∷ m ∷ ns)) (names_spaced (n ∷ m ∷ ns))).ok false open_ refl)).ok a u o }

inner_follows : (hs : List Inner) → Follows (inner_marks hs)
inner_follows [] = follows_none
inner_follows (h ∷ hs) = follows_edge comma (apart (tok.Name h.name) ∷ apart (tok.Keyword kw.In) ∷ range_marks h.range true ++ inner_marks hs) refl
    (spaced_append (tok.Keyword kw.In) (range_marks h.range true) (inner_marks hs) ((range_spaced h.range).ok true (tok.Keyword kw.In) refl) (inner_follows hs))

head_spaced : (ps : List Axis) (product : Bool) → Spaced (head_marks ps product)
head_spaced ps true = called_spaced (tok.Keyword kw.Product) (listed (map axis_marks ps) false) ((listed_spaced (map axis_marks ps) (axes_spaced ps)).ok false open_ refl)
head_spaced ps false = listed_spaced (map axis_marks ps) (axes_spaced ps)

-- ---- towers

abbrev SuchTower : Type 0
SuchTower = (p : TowerExpr) × Spaced (tower_marks p)

abbrev bare_tower : SuchTower → TowerExpr
bare_tower s = s.0

layer_tower : (y : TowerExpr-F SuchTower) → Spaced (tower_step (map-TowerExpr TowerExpr Written tower_marks (map-TowerExpr SuchTower TowerExpr bare_tower y)))
layer_tower (t.Leaf d p) = called_spaced (tok.Keyword (kind_word d)) (expr_marks p false) ((whole_spaced p).ok false open_ refl)
layer_tower t.Count = called_spaced (tok.Keyword kw.Count) [] refl
layer_tower (t.Grouped key s) = called_spaced (tok.Keyword kw.Group) (expr_marks key false ++ glued comma ∷ tower_marks s.0 true)
    (spaced_append open_ (expr_marks key false) (glued comma ∷ tower_marks s.0 true) ((whole_spaced key).ok false open_ refl) (follows_edge comma (tower_marks s.0 true) refl (s.1.ok true comma refl)))
layer_tower (t.Both s r) = called_spaced (tok.Keyword kw.Both) (tower_marks s.0 false ++ glued comma ∷ tower_marks r.0 true)
    (spaced_append open_ (tower_marks s.0 false) (glued comma ∷ tower_marks r.0 true) (s.1.ok false open_ refl) (follows_edge comma (tower_marks r.0 true) refl (r.1.ok true comma refl)))

pub tower_spaced : (p : TowerExpr) → Spaced (tower_marks p)
tower_spaced = ind-TowerExpr (λ p. Spaced (tower_marks p)) (λ p y is.
    subst Spaced (sym (fold-roll-TowerExpr Written tower_step p))
    (subst (λ w. Spaced (tower_step (map-TowerExpr TowerExpr Written tower_marks w))) is (layer_tower y)))

start_follows : (start : Option Value) → Follows (start_marks start)
start_follows None = follows_none
start_follows (Some v) = follows_apart (tok.Keyword kw.From) (value_marks v true) ((value_spaced v).ok true (tok.Keyword kw.From) refl)

assigned_tower : (p : TowerExpr) (start : Option Value) → Follows (apart (tok.Sign sg.Assign) ∷ tower_marks p true ++ start_marks start)
assigned_tower p start = follows_apart (tok.Sign sg.Assign) (tower_marks p true ++ start_marks start)
    (spaced_append (tok.Sign sg.Assign) (tower_marks p true) (start_marks start) ((tower_spaced p).ok true (tok.Sign sg.Assign) refl) (start_follows start))

folded_follows : (p : TowerExpr) (start : Option Value) → Follows (folded_marks p start)
folded_follows (tower.Leaf kind.Sum p) None = follows_apart (tok.Sign sg.PlusAssign) (expr_marks p true) ((whole_spaced p).ok true (tok.Sign sg.PlusAssign) refl)
folded_follows p start = assigned_tower p start

-- ---- lines

-- a name, `=` and something
assigned : (n : List ℕ) (m : Written) → Spaced m → Follows (apart (tok.Name n) ∷ apart (tok.Sign sg.Assign) ∷ m true)
assigned n m s = follows_apart (tok.Name n) (apart (tok.Sign sg.Assign) ∷ m true) (s.ok true (tok.Sign sg.Assign) refl)

line_spaced : (form : Line) → spaced (line_marks form) ≡ true
line_spaced l.SkipFaults = refl
line_spaced (l.Var n v) = (assigned n (value_marks v) (value_spaced v)).any (tok.Keyword kw.Var)
line_spaced (l.Init n v) = (assigned n (value_marks v) (value_spaced v)).any (tok.At at.Init)
line_spaced (l.For h) = spaced_append (tok.Keyword kw.For) (pattern_marks h.names true ++ apart (tok.Keyword kw.In) ∷ head_marks h.axes h.product true) (inner_marks h.inner)
    (spaced_append (tok.Keyword kw.For) (pattern_marks h.names true) (apart (tok.Keyword kw.In) ∷ head_marks h.axes h.product true) ((pattern_spaced h.names).ok true (tok.Keyword kw.For) refl)
    (follows_apart (tok.Keyword kw.In) (head_marks h.axes h.product true) ((head_spaced h.axes h.product).ok true (tok.Keyword kw.In) refl)))
    (inner_follows h.inner)
line_spaced (l.Let ns p) = spaced_append (tok.Keyword kw.Let) (pattern_marks ns true) (apart (tok.Sign sg.Assign) ∷ expr_marks p true)
    ((pattern_spaced ns).ok true (tok.Keyword kw.Let) refl) (follows_apart (tok.Sign sg.Assign) (expr_marks p true) ((whole_spaced p).ok true (tok.Sign sg.Assign) refl))
line_spaced (l.Set n p) = (whole_spaced p).ok true (tok.Sign sg.Assign) refl
line_spaced (l.If p) = (whole_spaced p).ok true (tok.Keyword kw.If) refl
line_spaced (l.ElseIf p) = (whole_spaced p).ok true (tok.Keyword kw.ElseIf) refl
line_spaced l.Else = refl
line_spaced (l.Keep n p) = (assigned n (expr_marks p) (whole_spaced p)).any (tok.At at.Keep)
line_spaced (l.Reduce n p start) = (follows_apart (tok.Name n) (folded_marks p start) ((folded_follows p start).any (tok.Name n))).any (tok.At at.Reduce)
line_spaced l.Continue = refl
line_spaced l.Break = refl
line_spaced l.End = refl
line_spaced (l.Print n) = refl

pub canonical_spaces : CanonicalSpaces
canonical_spaces form readable = readable_marks (line_marks form) readable (line_spaced form)
