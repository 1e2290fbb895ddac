-- What stands behind the word `for`, taken apart.
use Rattle.std.proofs.Common.{◌≡◌, ℕ, ◌≤◌, Bool, false, ◌||◌, List, [], ◌∷◌, ◌++◌, length, refl, ap, sym, ◌∙◌, subst, arith}
use Rattle.loop_tokens.specs.declared.token.Token.{Token}
use Rattle.loop_tokens.specs.declared.token.Token.TheVariants as tok
use Rattle.loop_tokens.specs.declared.keyword.Keyword.TheVariants as kw
use Rattle.loop_data.specs.declared.head.Inner.{Inner}
use Rattle.loop_exprs.specs.Grammar.{NotFirst}
use Rattle.loop_grammar.specs.declared.line.Heads.{Heads}
use Rattle.loop_grammar.specs.LineForms.{SpellsPattern, SpellsHead, SpellsInner}
use Rattle.loop_heads.specs.declared.axis.FirstHead.{FirstHead}
use Rattle.loop_heads.specs.Claims.{PatternAt}
use Rattle.loop_heads.specs.Heads.{Ended, SpellsFirst, InnerBehind, SpellsHeads, HeadsAt, OneHeads}
use Rattle.loop_heads.proofs.Steps.{Only, other, pair_is, same_tail}
use Rattle.loop_heads.proofs.Patterns.{one_pattern}
use Rattle.loop_heads.proofs.Axes.{one_first}
use Rattle.loop_heads.proofs.Further.{inner_ends, one_inner}

-- the parts of heads
record IsHeads (h : Heads) (w : Bool) (ts : List Token) : Type 0 where
  names : List (List ℕ)
  after : List Token
  pattern : SpellsPattern names ts (tok.Keyword kw.In ∷ after)
  first : FirstHead
  wide : Bool
  behind : List Token
  head : Ended SpellsFirst after (first, wide, behind)
  inner : List Inner
  also : Bool
  further : SpellsInner inner also behind
  few : length inner ≤ 3
  heads : ◌≡◌ {A = Heads} (record { names = names; axes = first.axes; product = first.product; inner = inner }) h
  flag : (wide || also) ≡ w

heads_of : {h : Heads} {w : Bool} {ts : List Token} → SpellsHeads h w ts → IsHeads h w ts
heads_of (SpellsHeads.heads {ns = ns} {xs = xs} {product = product} {u = u} {v = v} {hs = hs} {us = us} {vs = vs} few p h i) = record {
  names = ns;
  after = us;
  pattern = p;
  first = record { axes = xs; product = product };
  wide = u;
  behind = vs;
  head = record { spelled = h; ends = inner_ends i };
  inner = hs;
  also = v;
  further = i;
  few = few;
  heads = refl;
  flag = refl;
}

pub heads_pattern : (ts : List Token) (z : Heads × Bool) → HeadsAt ts z → (y : List (List ℕ) × List Token) × PatternAt ts y
heads_pattern ts z q = let h = heads_of q in ((h.names, tok.Keyword kw.In ∷ h.after), h.pattern)

pub heads_in : (ts : List Token) (ns : List (List ℕ)) (r : List Token) → Only (PatternAt ts) (ns, r) → NotFirst (tok.Keyword kw.In) r → (z : Heads × Bool) → HeadsAt ts z → ⊥
heads_in ts ns r only free z q =
    let h = heads_of q in
    free h.after (ap (λ (p : List (List ℕ) × List Token). p.1) (only (h.names, tok.Keyword kw.In ∷ h.after) h.pattern))

-- ---- behind the word `in`

record AfterIn (ns : List (List ℕ)) (us : List Token) (z : Heads × Bool) : Type 0 where
  first : FirstHead
  wide : Bool
  behind : List Token
  head : Ended SpellsFirst us (first, wide, behind)
  inner : List Inner
  also : Bool
  further : SpellsInner inner also behind
  few : length inner ≤ 3
  heads : ◌≡◌ {A = Heads} (record { names = ns; axes = first.axes; product = first.product; inner = inner }) z.0
  flag : (wide || also) ≡ z.1

after_in : (ts : List Token) (ns : List (List ℕ)) (r us : List Token) → Only (PatternAt ts) (ns, r) → r ≡ tok.Keyword kw.In ∷ us → (z : Heads × Bool) → HeadsAt ts z → AfterIn ns us z
after_in ts ns r us only is z q =
    let h = heads_of q in
    let e = only (h.names, tok.Keyword kw.In ∷ h.after) h.pattern in
    let tail : us ≡ h.after = same_tail (tok.Keyword kw.In) us h.after (sym is ∙ ap (λ (p : List (List ℕ) × List Token). p.1) e) in
    let P : List Token → Type 0 = λ vs. Ended SpellsFirst vs (h.first, h.wide, h.behind) in
    let Q : List (List ℕ) → Heads = λ ms. record { names = ms; axes = h.first.axes; product = h.first.product; inner = h.inner } in
    record {
      first = h.first;
      wide = h.wide;
      behind = h.behind;
      head = other P tail h.head;
      inner = h.inner;
      also = h.also;
      further = h.further;
      few = h.few;
      heads = ap Q (ap (λ (p : List (List ℕ) × List Token). p.0) e) ∙ h.heads;
      flag = h.flag;
    }

pub heads_first : (ts : List Token) (ns : List (List ℕ)) (r us : List Token) → Only (PatternAt ts) (ns, r) → r ≡ tok.Keyword kw.In ∷ us → (z : Heads × Bool) → HeadsAt ts z →
    (y : FirstHead × Bool × List Token) × Ended SpellsFirst us y
heads_first ts ns r us only is z q = let h = after_in ts ns r us only is z q in ((h.first, h.wide, h.behind), h.head)

-- ---- behind the first head

pub record AfterFirst (ns : List (List ℕ)) (y : FirstHead × Bool × List Token) (z : Heads × Bool) : Type 0 where
  pub inner : List Inner
  pub also : Bool
  pub further : SpellsInner inner also y.2
  pub few : length inner ≤ 3
  pub heads : ◌≡◌ {A = Heads} (record { names = ns; axes = y.0.axes; product = y.0.product; inner = inner }) z.0
  pub flag : (y.1 || also) ≡ z.1

pub after_first : (ts : List Token) (ns : List (List ℕ)) (r us : List Token) (y : FirstHead × Bool × List Token) → Only (PatternAt ts) (ns, r) → r ≡ tok.Keyword kw.In ∷ us → Only (Ended SpellsFirst us) y →
    (z : Heads × Bool) → HeadsAt ts z → AfterFirst ns y z
after_first ts ns r us y only is next z q =
    let h = after_in ts ns r us only is z q in
    let P : FirstHead × Bool × List Token → Type 0 = λ p. AfterFirst ns p z in
    other P (next (h.first, h.wide, h.behind) h.head) (record { inner = h.inner; also = h.also; further = h.further; few = h.few; heads = h.heads; flag = h.flag })

inner_behind : (found : List Inner) (hs : List Inner) (v : Bool) (vs : List Token) → found ≡ [] → SpellsInner hs v vs → InnerBehind found false vs (hs, v)
inner_behind found hs v vs none p = record { items = hs; flag = v; joined = ap (λ xs. xs ++ hs) (sym none); either = refl; spelled = p }

pub heads_further : (found : List Inner) (ns : List (List ℕ)) (y : FirstHead × Bool × List Token) (z : Heads × Bool) → found ≡ [] → AfterFirst ns y z → (x : List Inner × Bool) × InnerBehind found false y.2 x
heads_further found ns y z none h = ((h.inner, h.also), inner_behind found h.inner h.also y.2 none h.further)

-- ---- at the line's end

pub heads_few : (found : List Inner) (ns : List (List ℕ)) (y : FirstHead × Bool × List Token) (hs : List Inner) (v : Bool) (z : Heads × Bool) → found ≡ [] → Only (InnerBehind found false y.2) (hs, v) →
    AfterFirst ns y z → length hs ≤ 3
heads_few found ns y hs v z none only h =
    let e = ap (λ (p : List Inner × Bool). length p.0) (only (h.inner, h.also) (inner_behind found h.inner h.also y.2 none h.further)) in
    let f = h.few in
    omega arith

pub heads_are : (found : List Inner) (ns : List (List ℕ)) (y : FirstHead × Bool × List Token) (hs : List Inner) (v : Bool) (z : Heads × Bool) → found ≡ [] → Only (InnerBehind found false y.2) (hs, v) →
    AfterFirst ns y z → ◌≡◌ {A = Heads × Bool} (record { names = ns; axes = y.0.axes; product = y.0.product; inner = hs }, y.1 || v) z
heads_are found ns y hs v z none only h =
    let e = only (h.inner, h.also) (inner_behind found h.inner h.also y.2 none h.further) in
    let P : List Inner → Heads = λ ks. record { names = ns; axes = y.0.axes; product = y.0.product; inner = ks } in
    pair_is (record { names = ns; axes = y.0.axes; product = y.0.product; inner = hs }) (y.1 || v) z
    (ap P (ap (λ (p : List Inner × Bool). p.0) e) ∙ h.heads) (ap (λ b. y.1 || b) (ap (λ (p : List Inner × Bool). p.1) e) ∙ h.flag)

pub heads_spelled : (found hs : List Inner) (ns : List (List ℕ)) (y : FirstHead × Bool × List Token) (v : Bool) (ts r us : List Token) → found ≡ [] → SpellsPattern ns ts r → r ≡ tok.Keyword kw.In ∷ us →
    SpellsHead y.0.axes y.0.product y.1 us y.2 → InnerBehind found false y.2 (hs, v) → length hs ≤ 3 →
    SpellsHeads (record { names = ns; axes = y.0.axes; product = y.0.product; inner = hs }) (y.1 || v) ts
heads_spelled found hs ns y v ts r us none p is h b few =
    let same : b.items ≡ hs = sym (b.joined ∙ ap (λ xs. xs ++ b.items) none) in
    let P : List Token → Type 0 = λ vs. SpellsPattern ns ts vs in
    let Q : List Inner → Type 0 = λ ks. SpellsInner ks b.flag y.2 in
    let R : Bool → Type 0 = λ w. SpellsInner hs w y.2 in
    SpellsHeads.heads few (subst P is p) h (subst R (sym b.either) (subst Q same b.spelled))

-- ---- heads are determined

pattern_one : (ts : List Token) (ns : List (List ℕ)) (r : List Token) → SpellsPattern ns ts r → Only (PatternAt ts) (ns, r)
pattern_one ts ns r p y q = let e = one_pattern ts r y.1 ns y.0 p q in pair_is ns r y e.0 e.1

one_at : (ts : List Token) (x z : Heads × Bool) → HeadsAt ts x → HeadsAt ts z → x ≡ z
one_at ts x z p q =
    let h = heads_of p in
    let r = tok.Keyword kw.In ∷ h.after in
    let y : FirstHead × Bool × List Token = (h.first, h.wide, h.behind) in
    let a = after_first ts h.names r h.after y (pattern_one ts h.names r h.pattern) refl (one_first h.after y h.head) z q in
    let e = one_inner h.further a.further in
    let P : List Inner → Heads = λ ks. record { names = h.names; axes = h.first.axes; product = h.first.product; inner = ks } in
    sym (pair_is (record { names = h.names; axes = h.first.axes; product = h.first.product; inner = h.inner }) (h.wide || h.also) x h.heads h.flag) ∙
    pair_is (record { names = h.names; axes = h.first.axes; product = h.first.product; inner = h.inner }) (h.wide || h.also) z
    (ap P (ap (λ (t : List Inner × Bool). t.0) e) ∙ a.heads) (ap (λ b. h.wide || b) (ap (λ (t : List Inner × Bool). t.1) e) ∙ a.flag)

pub one_heads : OneHeads
one_heads ts h k w y p q =
    let e = one_at ts (h, w) (k, y) p q in
    (ap (λ (t : Heads × Bool). t.0) e, ap (λ (t : Heads × Bool). t.1) e)
