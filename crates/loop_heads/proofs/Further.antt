-- Further heads, taken apart.
use Rattle.std.proofs.Common.{◌≡◌, ℕ, Bool, true, false, ◌||◌, List, [], ◌∷◌, ◌++◌, ◌<◌, length, nat_eq, refl, ap, sym, ◌∙◌, subst, arith, append_assoc}
use Rattle.std.proofs.lemmas.Bool.Decides.{nat_tests}
use Rattle.loop_tokens.specs.declared.token.Token.{Token}
use Rattle.loop_tokens.specs.declared.token.Token.TheVariants as tok
use Rattle.loop_tokens.specs.declared.keyword.Keyword.TheVariants as kw
use Rattle.loop_tokens.specs.declared.sign.Sign.TheVariants as sg
use Rattle.loop_data.specs.declared.expr.RangeExpr.{RangeExpr}
use Rattle.loop_data.specs.declared.head.Inner.{Inner}
use Rattle.loop_exprs.specs.Grammar.{NotFirst}
use Rattle.loop_exprs.proofs.Sound.{or_assoc}
use Rattle.loop_grammar.specs.LineForms.{SpellsRange, SpellsInner}
use Rattle.loop_heads.specs.Tokens.{NoNameFirst}
use Rattle.loop_heads.specs.Heads.{EndsRange, Ended, SpellsFurther, InnerBehind}
use Rattle.loop_heads.proofs.Steps.{Only, other, pair_is, triple_is, same_tail}
use Rattle.loop_heads.proofs.Ranges.{one_range}
use Rattle.loop_heads.proofs.Lists.{comma_ends}

-- ---- one further head

record IsFurther (x : Inner) (u : Bool) (ts rest : List Token) : Type 0 where
  name : List ℕ
  range : RangeExpr
  inside : List Token
  tokens : ts ≡ tok.Sign sg.Comma ∷ tok.Name name ∷ tok.Keyword kw.In ∷ inside
  inner : ◌≡◌ {A = Inner} (record { name = name; range = range }) x
  spelled : SpellsRange range u inside rest

further_of : {x : Inner} {u : Bool} {ts rest : List Token} → SpellsFurther x u ts rest → IsFurther x u ts rest
further_of (SpellsFurther.further {n = n} {r = r} {ts = us} d) = record { name = n; range = r; inside = us; tokens = refl; inner = refl; spelled = d }

pub further_comma : (ts : List Token) → NotFirst (tok.Sign sg.Comma) ts → (z : Inner × Bool × List Token) → Ended SpellsFurther ts z → ⊥
further_comma ts h z q = h _ (further_of q.spelled).tokens

pub further_name : (ts us : List Token) → ts ≡ tok.Sign sg.Comma ∷ us → NoNameFirst us → (z : Inner × Bool × List Token) → Ended SpellsFurther ts z → ⊥
further_name ts us a h z q =
    let f = further_of q.spelled in
    h f.name _ (same_tail (tok.Sign sg.Comma) us (tok.Name f.name ∷ tok.Keyword kw.In ∷ f.inside) (sym a ∙ f.tokens))

whole : (n : List ℕ) (ts us vs ws : List Token) → ts ≡ tok.Sign sg.Comma ∷ us → us ≡ tok.Name n ∷ vs → vs ≡ tok.Keyword kw.In ∷ ws →
    ts ≡ tok.Sign sg.Comma ∷ tok.Name n ∷ tok.Keyword kw.In ∷ ws
whole n ts us vs ws a b c = a ∙ ap (λ xs. tok.Sign sg.Comma ∷ xs) b ∙ ap (λ xs. tok.Sign sg.Comma ∷ tok.Name n ∷ xs) c

pub further_in : (n : List ℕ) (ts us vs : List Token) → ts ≡ tok.Sign sg.Comma ∷ us → us ≡ tok.Name n ∷ vs → NotFirst (tok.Keyword kw.In) vs →
    (z : Inner × Bool × List Token) → Ended SpellsFurther ts z → ⊥
further_in n ts us vs a b h z q =
    let f = further_of q.spelled in
    let e : ◌≡◌ {A = List Token} (tok.Sign sg.Comma ∷ tok.Name n ∷ vs) (tok.Sign sg.Comma ∷ tok.Name f.name ∷ tok.Keyword kw.In ∷ f.inside) =
    ap (λ xs. tok.Sign sg.Comma ∷ xs) (sym b) ∙ sym a ∙ f.tokens in
    let tail : vs ≡ tok.Keyword kw.In ∷ f.inside = cc in
    h f.inside tail

-- the name and the range of a further head whose first tokens are known
record FurtherAt (n : List ℕ) (ws : List Token) (z : Inner × Bool × List Token) : Type 0 where
  range : RangeExpr
  inner : ◌≡◌ {A = Inner} (record { name = n; range = range }) z.0
  ended : Ended SpellsRange ws (range, z.1, z.2)

further_at : (n : List ℕ) (ts ws : List Token) → ts ≡ tok.Sign sg.Comma ∷ tok.Name n ∷ tok.Keyword kw.In ∷ ws → (z : Inner × Bool × List Token) → Ended SpellsFurther ts z → FurtherAt n ws z
further_at n ts ws is z q =
    let f = further_of q.spelled in
    let e : ◌≡◌ {A = List Token} (tok.Sign sg.Comma ∷ tok.Name n ∷ tok.Keyword kw.In ∷ ws) (tok.Sign sg.Comma ∷ tok.Name f.name ∷ tok.Keyword kw.In ∷ f.inside) = sym is ∙ f.tokens in
    let name : n ≡ f.name = cc in
    let tail : f.inside ≡ ws = cc in
    let P : List Token → Type 0 = λ vs. SpellsRange f.range z.1 vs z.2 in
    let Q : List ℕ → Inner = λ m. record { name = m; range = f.range } in
    record { range = f.range; inner = ap Q name ∙ f.inner; ended = record { spelled = subst P tail f.spelled; ends = q.ends } }

pub further_range : (n : List ℕ) (ts us vs ws : List Token) → ts ≡ tok.Sign sg.Comma ∷ us → us ≡ tok.Name n ∷ vs → vs ≡ tok.Keyword kw.In ∷ ws →
    (z : Inner × Bool × List Token) → Ended SpellsFurther ts z → (y : RangeExpr × Bool × List Token) × Ended SpellsRange ws y
further_range n ts us vs ws a b c z q = let f = further_at n ts ws (whole n ts us vs ws a b c) z q in ((f.range, z.1, z.2), f.ended)

pub further_is : (n m : List ℕ) (ts us vs ws : List Token) (y : RangeExpr × Bool × List Token) → ts ≡ tok.Sign sg.Comma ∷ us → us ≡ tok.Name n ∷ vs → vs ≡ tok.Keyword kw.In ∷ ws → m ≡ n →
    Only (Ended SpellsRange ws) y → Only (Ended SpellsFurther ts) (record { name = m; range = y.0 }, y.1, y.2)
further_is n m ts us vs ws y a b c same only z q =
    let f = further_at n ts ws (whole n ts us vs ws a b c) z q in
    let e = only (f.range, z.1, z.2) f.ended in
    let P : List ℕ → Inner = λ k. record { name = k; range = y.0 } in
    let Q : RangeExpr → Inner = λ r. record { name = n; range = r } in
    triple_is (record { name = m; range = y.0 }) y.1 y.2 z (ap P same ∙ ap Q (ap (λ (t : RangeExpr × Bool × List Token). t.0) e) ∙ f.inner)
    (ap (λ (t : RangeExpr × Bool × List Token). t.1) e) (ap (λ (t : RangeExpr × Bool × List Token). t.2) e)

pub further_spelled : (n m : List ℕ) (ts us vs ws : List Token) (y : RangeExpr × Bool × List Token) → ts ≡ tok.Sign sg.Comma ∷ us → us ≡ tok.Name n ∷ vs → vs ≡ tok.Keyword kw.In ∷ ws → m ≡ n →
    SpellsRange y.0 y.1 ws y.2 → SpellsFurther (record { name = m; range = y.0 }) y.1 ts y.2
further_spelled n m ts us vs ws y a b c same d =
    let P : List Token → Type 0 = λ xs. SpellsFurther (record { name = m; range = y.0 }) y.1 xs y.2 in
    let Q : List ℕ → Type 0 = λ k. SpellsFurther (record { name = m; range = y.0 }) y.1 (tok.Sign sg.Comma ∷ tok.Name k ∷ tok.Keyword kw.In ∷ ws) y.2 in
    subst P (sym (whole n ts us vs ws a b c)) (subst Q same (SpellsFurther.further d))

-- ---- all further heads

pub inner_ends : {hs : List Inner} {v : Bool} {ts : List Token} → SpellsInner hs v ts → EndsRange ts
inner_ends SpellsInner.none = record { expr = tt; no_colon = λ us s. cc }
inner_ends (SpellsInner.more {n = n} {ts = ts} d p) = comma_ends (tok.Name n ∷ tok.Keyword kw.In ∷ ts)

record IsNext (hs : List Inner) (v : Bool) (ts : List Token) : Type 0 where
  first : Inner
  flag : Bool
  rest : List Token
  further : Ended SpellsFurther ts (first, flag, rest)
  items : List Inner
  wide : Bool
  list : first ∷ items ≡ hs
  either : (flag || wide) ≡ v
  behind : SpellsInner items wide rest

next_of : {hs : List Inner} {v : Bool} {ts : List Token} → SpellsInner hs v ts → (ts ≡ [] → ⊥) → IsNext hs v ts
next_of SpellsInner.none h = absurd (h refl)
next_of (SpellsInner.more {n = n} {r = r} {hs = hs} {u = u} {v = v} {us = us} d p) h = record {
  first = record { name = n; range = r };
  flag = u;
  rest = us;
  further = record { spelled = SpellsFurther.further d; ends = inner_ends p };
  items = hs;
  wide = v;
  list = refl;
  either = refl;
  behind = p;
}

pub next_further : (found : List Inner) (w : Bool) (ts : List Token) → (ts ≡ [] → ⊥) → (z : List Inner × Bool) → InnerBehind found w ts z →
    (y : Inner × Bool × List Token) × Ended SpellsFurther ts y
next_further found w ts h z q = let n = next_of q.spelled h in ((n.first, n.flag, n.rest), n.further)

pub rest_further : (found : List Inner) (w : Bool) (ts : List Token) (y : Inner × Bool × List Token) → (ts ≡ [] → ⊥) → Only (Ended SpellsFurther ts) y →
    (z : List Inner × Bool) → InnerBehind found w ts z → InnerBehind (found ++ y.0 ∷ []) (w || y.1) y.2 z
rest_further found w ts y h only z q =
    let n = next_of q.spelled h in
    let P : Inner × Bool × List Token → Type 0 = λ p. InnerBehind (found ++ p.0 ∷ []) (w || p.1) p.2 z in
    other P (only (n.first, n.flag, n.rest) n.further) (record {
      items = n.items;
      flag = n.wide;
      joined = q.joined ∙ ap (λ xs. found ++ xs) (sym n.list) ∙ sym (append_assoc found (n.first ∷ []) n.items);
      either = q.either ∙ ap (λ b. w || b) (sym n.either) ∙ sym (or_assoc w n.flag n.wide);
      spelled = n.behind;
    })

further_behind_at : {x : Inner} {u : Bool} {ts r : List Token} (found : List Inner) (w : Bool) (z : List Inner × Bool) → SpellsFurther x u ts r →
    InnerBehind (found ++ x ∷ []) (w || u) r z → InnerBehind found w ts z
further_behind_at found w z (SpellsFurther.further {n = n} {r = r} {u = u} d) b = record {
  items = record { name = n; range = r } ∷ b.items;
  flag = u || b.flag;
  joined = b.joined ∙ append_assoc found (record { name = n; range = r } ∷ []) b.items;
  either = b.either ∙ or_assoc w u b.flag;
  spelled = SpellsInner.more d b.spelled;
}

pub further_behind : (found : List Inner) (w : Bool) (ts : List Token) (y : Inner × Bool × List Token) → SpellsFurther y.0 y.1 ts y.2 →
    (z : List Inner × Bool) → InnerBehind (found ++ y.0 ∷ []) (w || y.1) y.2 z → InnerBehind found w ts z
further_behind found w ts y d z b = further_behind_at found w z d b

append_none : (xs : List Inner) → xs ++ [] ≡ xs
append_none [] = refl
append_none (x ∷ xs) = ap (λ ys. x ∷ ys) (append_none xs)

or_false : (w : Bool) → (w || false) ≡ w
or_false true = refl
or_false false = refl

none_of : {hs : List Inner} {v : Bool} {ts : List Token} → SpellsInner hs v ts → ts ≡ [] → (hs ≡ []) × (v ≡ false)
none_of SpellsInner.none is = (refl, refl)
none_of (SpellsInner.more d p) is = cc

pub no_further : (found : List Inner) (w : Bool) (ts : List Token) → ts ≡ [] → Only (InnerBehind found w ts) (found, w)
no_further found w ts is z q =
    let n = none_of q.spelled is in
    pair_is found w z (sym (append_none found) ∙ ap (λ xs. found ++ xs) (sym n.0) ∙ sym q.joined) (sym (or_false w) ∙ ap (λ b. w || b) (sym n.1) ∙ sym q.either)

pub none_behind : (found : List Inner) (w : Bool) (ts : List Token) → ts ≡ [] → InnerBehind found w ts (found, w)
none_behind found w ts is =
    let P : List Token → Type 0 = λ us. SpellsInner [] false us in
    record { items = []; flag = false; joined = sym (append_none found); either = sym (or_false w); spelled = subst P (sym is) SpellsInner.none }

not_empty : (n : ℕ) (b : Bool) → 0 < n → b ≡ nat_eq n 0 → b ≡ true → ⊥
not_empty n b more is holds = grind (arith, nat_tests)

is_empty : (n : ℕ) (b : Bool) → n ≡ 0 → b ≡ nat_eq n 0 → b ≡ false → ⊥
is_empty n b none is fails = grind (arith, nat_tests)

length_more : (t : Token) (ts : List Token) → 0 < length (t ∷ ts)
length_more t ts = omega arith

-- what a test for the empty list says
pub empty_of : (ts : List Token) (b : Bool) → b ≡ nat_eq (length ts) 0 → b ≡ true → ts ≡ []
empty_of [] b is holds = refl
empty_of (t ∷ ts) b is holds = absurd (not_empty (length (t ∷ ts)) b (length_more t ts) is holds)

pub filled_of : (ts : List Token) (b : Bool) → b ≡ nat_eq (length ts) 0 → b ≡ false → ts ≡ [] → ⊥
filled_of ts b is fails none = is_empty (length ts) b (ap (λ (us : List Token). length us) none) is fails

pub one_inner : {hs ks : List Inner} {u v : Bool} {ts : List Token} → SpellsInner hs u ts → SpellsInner ks v ts → ◌≡◌ {A = List Inner × Bool} (hs, u) (ks, v)
one_inner SpellsInner.none SpellsInner.none = refl
one_inner (SpellsInner.more {n = n} {r = r} {hs = hs} {u = u} {v = v} {ts = ts} {us = us} d p) (SpellsInner.more {r = r'} {hs = hs'} {u = u'} {v = v'} {us = us'} d' p') =
    let e = one_range ts (r, u, us) (record { spelled = d; ends = inner_ends p }) (r', u', us') (record { spelled = d'; ends = inner_ends p' }) in
    let P : List Token → Type 0 = λ ws. SpellsInner hs' v' ws in
    let same = one_inner p (other P (ap (λ (t : RangeExpr × Bool × List Token). t.2) e) p') in
    let Q : RangeExpr × Bool × List Token → List Inner × Bool = λ t. (record { name = n; range = t.0 } ∷ hs, t.1 || v) in
    let R : List Inner × Bool → List Inner × Bool = λ t. (record { name = n; range = r' } ∷ t.0, u' || t.1) in
    ap Q e ∙ ap R same
