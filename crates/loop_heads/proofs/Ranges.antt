-- A range, taken apart behind each of its expressions.
use Rattle.std.proofs.Common.{◌≡◌, Bool, ◌||◌, List, ◌∷◌, Some, None, Result, Ok, Err, refl, ap, sym, ◌∙◌, subst}
use Rattle.loop_tokens.specs.declared.token.Token.{Token}
use Rattle.loop_tokens.specs.declared.token.Token.TheVariants as tok
use Rattle.loop_tokens.specs.declared.sign.Sign.TheVariants as sg
use Rattle.loop_data.specs.declared.expr.Expr.{Expr}
use Rattle.loop_data.specs.declared.expr.RangeExpr.{RangeExpr}
use Rattle.loop_exprs.specs.declared.read.ReadError.{ReadError}
use Rattle.loop_exprs.specs.declared.read.ReadError.TheVariants.{NoMemory, NotSpelled}
use Rattle.loop_exprs.specs.Grammar.{NotFirst}
use Rattle.loop_exprs.specs.Claims.{Front, GaveEachFront}
use Rattle.loop_exprs.proofs.Unique.{one_reading}
use Rattle.loop_grammar.specs.LineForms.{SpellsRange}
use Rattle.loop_heads.specs.Claims.{GaveEach}
use Rattle.loop_heads.specs.Heads.{EndsRange, Ended}
use Rattle.loop_heads.proofs.Steps.{Only, other, triple_is, same_tail}

-- ---- an expression at the front

abbrev pub FrontAt : List Token → Expr × Bool × List Token → Type 0
FrontAt ts x = Front ts x.0 x.1 x.2

pub front_each : {Y : Type 0} (f : Y → Expr × Bool × List Token) (r : Result Y ReadError) (ts : List Token) → GaveEachFront f r ts → GaveEach (FrontAt ts) f r
front_each f (Ok y) ts h x q = h x.0 x.1 x.2 q
front_each f (Err NoMemory) ts h x q = tt
front_each f (Err NotSpelled) ts h x q = h x.0 x.1 x.2 q

pub front_one : {x : Expr} {u : Bool} {ts rest : List Token} → Front ts x u rest → Only (FrontAt ts) (x, u, rest)
front_one {x = x} {u = u} {ts = ts} {rest = rest} f y q =
    let e = one_reading ts rest y.2 x y.0 u y.1 f q in
    triple_is x u rest y e.0 e.1 e.2

-- ---- behind the first expression

-- Second a u us r w rest: with `a:` before them the tokens us go on with the range r.
pub data Second : Expr → Bool → List Token → RangeExpr → Bool → List Token → Type 0 where
  by_one : {a b : Expr} {u v : Bool} {us rest : List Token} → Front us b v rest → NotFirst (tok.Sign sg.Colon) rest →
      Second a u us (record { first = a; step = None; last = b }) (u || v) rest
  by_step : {a s b : Expr} {u v w : Bool} {us vs rest : List Token} → Front us s v (tok.Sign sg.Colon ∷ vs) → Front vs b w rest →
      Second a u us (record { first = a; step = Some s; last = b }) (u || v || w) rest

record First (ts : List Token) (r : RangeExpr) (w : Bool) (end : List Token) : Type 0 where
  first : Expr
  wide : Bool
  rest : List Token
  front : Front ts first wide (tok.Sign sg.Colon ∷ rest)
  second : Second first wide rest r w end

first_of : {r : RangeExpr} {u : Bool} {ts rest : List Token} → SpellsRange r u ts rest → EndsRange rest → First ts r u rest
first_of (SpellsRange.by_one {a = a} {u = u} {us = us} d f) e = record {
  first = a;
  wide = u;
  rest = us;
  front = record { spelled = d; longest = refl };
  second = Second.by_one (record { spelled = f; longest = e.expr }) e.no_colon;
}
first_of (SpellsRange.by_step {a = a} {u = u} {us = us} d f g) e = record {
  first = a;
  wide = u;
  rest = us;
  front = record { spelled = d; longest = refl };
  second = Second.by_step (record { spelled = f; longest = refl }) (record { spelled = g; longest = e.expr });
}

pub first_front : (ts : List Token) (z : RangeExpr × Bool × List Token) → Ended SpellsRange ts z → (y : Expr × Bool × List Token) × FrontAt ts y
first_front ts z q = let f = first_of q.spelled q.ends in ((f.first, f.wide, tok.Sign sg.Colon ∷ f.rest), f.front)

pub record Firsts (a : Expr) (u : Bool) (r : List Token) (z : RangeExpr × Bool × List Token) : Type 0 where
  pub rest : List Token
  pub colon : r ≡ tok.Sign sg.Colon ∷ rest
  pub second : Second a u rest z.0 z.1 z.2

pub firsts : (ts : List Token) (a : Expr) (u : Bool) (r : List Token) → Only (FrontAt ts) (a, u, r) → (z : RangeExpr × Bool × List Token) → Ended SpellsRange ts z → Firsts a u r z
firsts ts a u r only z q =
    let f = first_of q.spelled q.ends in
    let e = only (f.first, f.wide, tok.Sign sg.Colon ∷ f.rest) f.front in
    let P : Expr × Bool × List Token → Type 0 = λ p. Second p.0 p.1 f.rest z.0 z.1 z.2 in
    record { rest = f.rest; colon = ap (λ (p : Expr × Bool × List Token). p.2) e; second = other P e f.second }

second_at : (a : Expr) (u : Bool) (r us : List Token) (z : RangeExpr × Bool × List Token) → r ≡ tok.Sign sg.Colon ∷ us → Firsts a u r z → Second a u us z.0 z.1 z.2
second_at a u r us z is f =
    let P : List Token → Type 0 = λ vs. Second a u vs z.0 z.1 z.2 in
    other P (same_tail (tok.Sign sg.Colon) us f.rest (sym is ∙ f.colon)) f.second

front_of : {a : Expr} {u w : Bool} {us rest : List Token} {r : RangeExpr} → Second a u us r w rest → (y : Expr × Bool × List Token) × FrontAt us y
front_of (Second.by_one {b = b} {v = v} {rest = rest} f n) = ((b, v, rest), f)
front_of (Second.by_step {s = s} {v = v} {vs = vs} f g) = ((s, v, tok.Sign sg.Colon ∷ vs), f)

pub second_front : (ts : List Token) (a : Expr) (u : Bool) (r us : List Token) → Only (FrontAt ts) (a, u, r) → r ≡ tok.Sign sg.Colon ∷ us →
    (z : RangeExpr × Bool × List Token) → Ended SpellsRange ts z → (y : Expr × Bool × List Token) × FrontAt us y
second_front ts a u r us only is z q = front_of (second_at a u r us z is (firsts ts a u r only z q))

-- ---- behind the second expression

pub data Third : Expr → Bool → Expr → Bool → List Token → RangeExpr → Bool → List Token → Type 0 where
  ends : {a b : Expr} {u v : Bool} {rest : List Token} → NotFirst (tok.Sign sg.Colon) rest →
      Third a u b v rest (record { first = a; step = None; last = b }) (u || v) rest
  goes : {a b c : Expr} {u v w : Bool} {vs rest : List Token} → Front vs c w rest →
      Third a u b v (tok.Sign sg.Colon ∷ vs) (record { first = a; step = Some b; last = c }) (u || v || w) rest

third_of : {a : Expr} {u w : Bool} {us rest : List Token} {r : RangeExpr} (b : Expr) (v : Bool) (rs : List Token) → Only (FrontAt us) (b, v, rs) → Second a u us r w rest →
    Third a u b v rs r w rest
third_of b v rs only (Second.by_one {a = a} {b = b'} {u = u} {v = v'} {rest = rest} f n) =
    let P : Expr × Bool × List Token → Type 0 = λ p. Third a u p.0 p.1 p.2 (record { first = a; step = None; last = b' }) (u || v') rest in
    other P (only (b', v', rest) f) (Third.ends n)
third_of b v rs only (Second.by_step {a = a} {s = s} {b = c} {u = u} {v = v'} {w = w} {vs = vs} {rest = rest} f g) =
    let P : Expr × Bool × List Token → Type 0 = λ p. Third a u p.0 p.1 p.2 (record { first = a; step = Some s; last = c }) (u || v' || w) rest in
    other P (only (s, v', tok.Sign sg.Colon ∷ vs) f) (Third.goes g)

pub thirds : (ts : List Token) (a : Expr) (u : Bool) (r us : List Token) (b : Expr) (v : Bool) (rs : List Token) → Only (FrontAt ts) (a, u, r) → r ≡ tok.Sign sg.Colon ∷ us →
    Only (FrontAt us) (b, v, rs) → (z : RangeExpr × Bool × List Token) → Ended SpellsRange ts z → Third a u b v rs z.0 z.1 z.2
thirds ts a u r us b v rs only is also z q = third_of b v rs also (second_at a u r us z is (firsts ts a u r only z q))

pub ends_there : {a b : Expr} {u v w : Bool} {rs rest : List Token} {r : RangeExpr} → Third a u b v rs r w rest → NotFirst (tok.Sign sg.Colon) rs →
    ◌≡◌ {A = RangeExpr × Bool × List Token} (record { first = a; step = None; last = b }, u || v, rs) (r, w, rest)
ends_there (Third.ends h) n = refl
ends_there (Third.goes f) n = absurd (n _ refl)

pub third_front : {a b : Expr} {u v w : Bool} {rs rest : List Token} {r : RangeExpr} (vs : List Token) → Third a u b v rs r w rest → rs ≡ tok.Sign sg.Colon ∷ vs →
    (y : Expr × Bool × List Token) × FrontAt vs y
third_front vs (Third.ends h) is = absurd (h _ is)
third_front vs (Third.goes {c = c} {w = w} {vs = us} {rest = rest} f) is =
    let P : List Token → Type 0 = λ ws. Front ws c w rest in
    ((c, w, rest), subst P (same_tail (tok.Sign sg.Colon) us vs is) f)

pub goes_there : {a b : Expr} {u v w : Bool} {rs rest : List Token} {r : RangeExpr} (vs : List Token) (c : Expr) (t : Bool) (end : List Token) → Third a u b v rs r w rest →
    rs ≡ tok.Sign sg.Colon ∷ vs → Only (FrontAt vs) (c, t, end) →
    ◌≡◌ {A = RangeExpr × Bool × List Token} (record { first = a; step = Some b; last = c }, u || v || t, end) (r, w, rest)
goes_there vs c t end (Third.ends h) is only = absurd (h _ is)
goes_there vs c t end (Third.goes {a = a} {b = b} {c = c'} {u = u} {v = v} {w = w} {vs = us} {rest = rest} f) is only =
    let P : List Token → Type 0 = λ ws. Front ws c' w rest in
    let Q : Expr × Bool × List Token → RangeExpr × Bool × List Token = λ p. (record { first = a; step = Some b; last = p.0 }, u || v || p.1, p.2) in
    ap Q (only (c', w, rest) (subst P (same_tail (tok.Sign sg.Colon) us vs is) f))

-- ---- a range is determined

one_second : {a : Expr} {u w y : Bool} {us rest also : List Token} {r s : RangeExpr} → Second a u us r w rest → Second a u us s y also →
    ◌≡◌ {A = RangeExpr × Bool × List Token} (r, w, rest) (s, y, also)
one_second (Second.by_one {b = b} {v = v} {rest = rest} f n) q = ends_there (third_of b v rest (front_one f) q) n
one_second (Second.by_step {s = s} {b = b} {v = v} {w = w} {vs = vs} {rest = rest} f g) q =
    goes_there vs b w rest (third_of s v (tok.Sign sg.Colon ∷ vs) (front_one f) q) refl (front_one g)

pub one_range : (ts : List Token) (y : RangeExpr × Bool × List Token) → Ended SpellsRange ts y → Only (Ended SpellsRange ts) y
one_range ts y p z q =
    let f = first_of p.spelled p.ends in
    let r = tok.Sign sg.Colon ∷ f.rest in
    one_second f.second (second_at f.first f.wide r f.rest z refl (firsts ts f.first f.wide r (front_one f.front) z q))
