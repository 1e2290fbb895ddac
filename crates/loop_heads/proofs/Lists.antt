-- Items with commas between them, taken apart.
use Rattle.std.proofs.Common.{◌≡◌, ◌≤◌, Bool, false, ◌||◌, List, [], ◌∷◌, ◌++◌, length, refl, ap, sym, ◌∙◌, subst, arith, append_assoc}
use Rattle.loop_tokens.specs.declared.token.Token.{Token}
use Rattle.loop_tokens.specs.declared.token.Token.TheVariants as tok
use Rattle.loop_tokens.specs.declared.sign.Sign.TheVariants as sg
use Rattle.loop_exprs.specs.Grammar.{NotFirst}
use Rattle.loop_exprs.proofs.Sound.{or_assoc}
use Rattle.loop_heads.specs.Claims.{IsSeveral, NotSeveral}
use Rattle.loop_heads.specs.Heads.{EndsRange, Ended, Listed, Behind, BehindEnd, Between}
use Rattle.loop_heads.proofs.Steps.{Only, other, triple_is, same_tail}

pub comma_ends : (us : List Token) → EndsRange (tok.Sign sg.Comma ∷ us)
comma_ends us = record { expr = refl; no_colon = λ vs s. cc }

pub close_ends : (us : List Token) → EndsRange (tok.Sign sg.Close ∷ us)
close_ends us = record { expr = refl; no_colon = λ vs s. cc }

no_comma_at_close : (us : List Token) → NotFirst (tok.Sign sg.Comma) (tok.Sign sg.Close ∷ us)
no_comma_at_close us vs s = cc

-- ---- one item more

item_of : {A : Type 0} {S : A → Bool → List Token → List Token → Type 0} {xs : List A} {u : Bool} {ts rest : List Token} →
    Listed S xs u ts rest → EndsRange rest → (y : A × Bool × List Token) × Ended S ts y
item_of (Listed.last {x = x} {u = u} {rest = rest} d) e = ((x, u, rest), record { spelled = d; ends = e })
item_of (Listed.more {x = x} {u = u} {us = us} d p) e = ((x, u, tok.Sign sg.Comma ∷ us), record { spelled = d; ends = comma_ends us })

pub next_item : {A : Type 0} (S : A → Bool → List Token → List Token → Type 0) (found : List A) (w : Bool) (ts : List Token) (z : List A × Bool × List Token) →
    BehindEnd S found w ts z → (y : A × Bool × List Token) × Ended S ts y
next_item S found w ts z q = item_of q.behind.spelled q.ends

-- After S x u r xs v rest: with the item x before them the tokens r go on with the list xs.
data After {A : Type 0} (S : A → Bool → List Token → List Token → Type 0) : A → Bool → List Token → List A → Bool → List Token → Type 0 where
  stops : {x : A} {u : Bool} {rest : List Token} → After S x u rest (x ∷ []) u rest
  goes : {x : A} {xs : List A} {u v : Bool} {us rest : List Token} → Listed S xs v us rest → After S x u (tok.Sign sg.Comma ∷ us) (x ∷ xs) (u || v) rest

after_of : {A : Type 0} (S : A → Bool → List Token → List Token → Type 0) {xs : List A} {v : Bool} {ts rest : List Token} (x : A) (u : Bool) (r : List Token) →
    Only (Ended S ts) (x, u, r) → Listed S xs v ts rest → EndsRange rest → After S x u r xs v rest
after_of {A = A} S x u r only (Listed.last {x = y} {u = v} {rest = rest} d) e =
    let P : A × Bool × List Token → Type 0 = λ p. After S p.0 p.1 p.2 (y ∷ []) v rest in
    other P (only (y, v, rest) (record { spelled = d; ends = e })) After.stops
after_of {A = A} S x u r only (Listed.more {x = y} {xs = ys} {u = v} {v = w} {us = us} {rest = rest} d p) e =
    let P : A × Bool × List Token → Type 0 = λ p. After S p.0 p.1 p.2 (y ∷ ys) (v || w) rest in
    other P (only (y, v, tok.Sign sg.Comma ∷ us) (record { spelled = d; ends = comma_ends us })) (After.goes p)

record IsLast {A : Type 0} (x : A) (u : Bool) (r : List Token) (xs : List A) (v : Bool) (rest : List Token) : Type 0 where
  list : x ∷ [] ≡ xs
  flag : u ≡ v
  tokens : r ≡ rest

last_of : {A : Type 0} {S : A → Bool → List Token → List Token → Type 0} {x : A} {u : Bool} {r : List Token} {xs : List A} {v : Bool} {rest : List Token} →
    After S x u r xs v rest → NotFirst (tok.Sign sg.Comma) r → IsLast x u r xs v rest
last_of After.stops h = record { list = refl; flag = refl; tokens = refl }
last_of (After.goes p) h = absurd (h _ refl)

record IsMore {A : Type 0} (S : A → Bool → List Token → List Token → Type 0) (x : A) (u : Bool) (us : List Token) (xs : List A) (v : Bool) (rest : List Token) : Type 0 where
  items : List A
  wide : Bool
  list : x ∷ items ≡ xs
  flag : (u || wide) ≡ v
  spelled : Listed S items wide us rest

more_of : {A : Type 0} (S : A → Bool → List Token → List Token → Type 0) {x : A} {u : Bool} {r : List Token} {xs : List A} {v : Bool} {rest : List Token} (us : List Token) →
    After S x u r xs v rest → r ≡ tok.Sign sg.Comma ∷ us → NotFirst (tok.Sign sg.Comma) rest → IsMore S x u us xs v rest
more_of S us After.stops is h = absurd (h _ is)
more_of S us (After.goes {xs = xs} {v = v} {us = vs} {rest = rest} p) is h =
    let P : List Token → Type 0 = λ ws. Listed S xs v ws rest in
    record { items = xs; wide = v; list = refl; flag = refl; spelled = subst P (same_tail (tok.Sign sg.Comma) vs us is) p }

-- the last item
pub last_item : {A : Type 0} (S : A → Bool → List Token → List Token → Type 0) (found : List A) (w : Bool) (ts : List Token) (x : A) (u : Bool) (r : List Token) →
    Only (Ended S ts) (x, u, r) → NotFirst (tok.Sign sg.Comma) r → Only (BehindEnd S found w ts) (found ++ x ∷ [], w || u, r)
last_item S found w ts x u r only h z q =
    let e = last_of (after_of S x u r only q.behind.spelled q.ends) h in
    triple_is (found ++ x ∷ []) (w || u) r z (ap (λ ys. found ++ ys) e.list ∙ sym q.behind.joined) (ap (λ b. w || b) e.flag ∙ sym q.behind.either) e.tokens

pub last_behind : {A : Type 0} (S : A → Bool → List Token → List Token → Type 0) (found : List A) (w : Bool) (ts : List Token) (x : A) (u : Bool) (r : List Token) →
    S x u ts r → Behind S found w ts (found ++ x ∷ [], w || u, r)
last_behind S found w ts x u r d = record { items = x ∷ []; flag = u; joined = refl; either = refl; spelled = Listed.last d }

-- an item with a comma behind it
pub more_items : {A : Type 0} (S : A → Bool → List Token → List Token → Type 0) (found : List A) (w : Bool) (ts : List Token) (x : A) (u : Bool) (r us : List Token) →
    Only (Ended S ts) (x, u, r) → r ≡ tok.Sign sg.Comma ∷ us → (z : List A × Bool × List Token) → BehindEnd S found w ts z → BehindEnd S (found ++ x ∷ []) (w || u) us z
more_items S found w ts x u r us only is z q =
    let m = more_of S us (after_of S x u r only q.behind.spelled q.ends) is q.no_comma in
    record {
      behind = record {
        items = m.items;
        flag = m.wide;
        joined = q.behind.joined ∙ ap (λ ys. found ++ ys) (sym m.list) ∙ sym (append_assoc found (x ∷ []) m.items);
        either = q.behind.either ∙ ap (λ b. w || b) (sym m.flag) ∙ sym (or_assoc w u m.wide);
        spelled = m.spelled;
      };
      ends = q.ends;
      no_comma = q.no_comma;
    }

pub more_behind : {A : Type 0} (S : A → Bool → List Token → List Token → Type 0) (found : List A) (w : Bool) (ts : List Token) (x : A) (u : Bool) (r us : List Token) →
    S x u ts r → r ≡ tok.Sign sg.Comma ∷ us → (z : List A × Bool × List Token) → Behind S (found ++ x ∷ []) (w || u) us z → Behind S found w ts z
more_behind S found w ts x u r us d is z b =
    let P : List Token → Type 0 = λ vs. S x u ts vs in
    record {
      items = x ∷ b.items;
      flag = u || b.flag;
      joined = b.joined ∙ append_assoc found (x ∷ []) b.items;
      either = b.either ∙ or_assoc w u b.flag;
      spelled = Listed.more (subst P is d) b.spelled;
    }

-- ---- a list is determined where its items are

abbrev pub IsOne : {A : Type 0} → (A → Bool → List Token → List Token → Type 0) → Type 0
IsOne {A = A} S = (ts : List Token) (y : A × Bool × List Token) → Ended S ts y → Only (Ended S ts) y

one_listed : {A : Type 0} (S : A → Bool → List Token → List Token → Type 0) → IsOne S → {xs ys : List A} {u v : Bool} {ts rest also : List Token} →
    Listed S xs u ts rest → EndsRange rest → NotFirst (tok.Sign sg.Comma) rest → Listed S ys v ts also → EndsRange also → NotFirst (tok.Sign sg.Comma) also →
    ◌≡◌ {A = List A × Bool × List Token} (xs, u, rest) (ys, v, also)
one_listed S one {ys = ys} {v = v} {also = also} (Listed.last {x = x} {u = u} {ts = ts} {rest = rest} d) e h q f g =
    let l = last_of (after_of S x u rest (one ts (x, u, rest) (record { spelled = d; ends = e })) q f) h in
    triple_is (x ∷ []) u rest (ys, v, also) l.list l.flag l.tokens
one_listed {A = A} S one {ys = ys} {v = v} {also = also} (Listed.more {x = x} {xs = xs} {u = u} {v = w} {ts = ts} {us = us} {rest = rest} d p) e h q f g =
    let m = more_of S us (after_of S x u (tok.Sign sg.Comma ∷ us) (one ts (x, u, tok.Sign sg.Comma ∷ us) (record { spelled = d; ends = comma_ends us })) q f) refl g in
    let same = one_listed S one p e h m.spelled f g in
    let Q : List A × Bool × List Token → List A × Bool × List Token = λ t. (x ∷ t.0, u || t.1, t.2) in
    ap Q same ∙ triple_is (x ∷ m.items) (u || m.wide) also (ys, v, also) m.list m.flag refl

-- ---- two to four items between parentheses

listed_at : {A : Type 0} (S : A → Bool → List Token → List Token → Type 0) (ts us : List Token) (x : List A × Bool × List Token) → ts ≡ tok.Sign sg.Open ∷ us → Between S ts x →
    Listed S x.0 x.1 us (tok.Sign sg.Close ∷ x.2)
listed_at S ts us x is b =
    let P : List Token → Type 0 = λ vs. Listed S x.0 x.1 vs (tok.Sign sg.Close ∷ x.2) in
    subst P (same_tail (tok.Sign sg.Open) b.inside us (sym b.opened ∙ is)) b.spelled

behind_none : {A : Type 0} (S : A → Bool → List Token → List Token → Type 0) (found : List A) (ts us : List Token) (x : List A × Bool × List Token) → found ≡ [] → ts ≡ tok.Sign sg.Open ∷ us → Between S ts x →
    BehindEnd S found false us (x.0, x.1, tok.Sign sg.Close ∷ x.2)
behind_none S found ts us x none is b = record {
  behind = record { items = x.0; flag = x.1; joined = ap (λ ys. ys ++ x.0) (sym none); either = refl; spelled = listed_at S ts us x is b };
  ends = close_ends x.2;
  no_comma = no_comma_at_close x.2;
}

pub between_items : {A : Type 0} (S : A → Bool → List Token → List Token → Type 0) (found : List A) (ts us : List Token) → found ≡ [] → ts ≡ tok.Sign sg.Open ∷ us →
    (x : List A × Bool × List Token) → Between S ts x → (y : List A × Bool × List Token) × BehindEnd S found false us y
between_items S found ts us none is x b = ((x.0, x.1, tok.Sign sg.Close ∷ x.2), behind_none S found ts us x none is b)

-- the items that were read are all that can stand there
pub record GivenBetween {A : Type 0} (all : List A) (u : Bool) (r : List Token) (x : List A × Bool × List Token) : Type 0 where
  pub same : all ≡ x.0
  pub flag : u ≡ x.1
  pub closed : r ≡ tok.Sign sg.Close ∷ x.2
  pub least : 2 ≤ length x.0
  pub most : length x.0 ≤ 4

pub given_between : {A : Type 0} (S : A → Bool → List Token → List Token → Type 0) (found : List A) (ts us : List Token) (all : List A) (u : Bool) (r : List Token) → found ≡ [] → ts ≡ tok.Sign sg.Open ∷ us →
    Only (BehindEnd S found false us) (all, u, r) → (x : List A × Bool × List Token) → Between S ts x → GivenBetween all u r x
given_between {A = A} S found ts us all u r none is only x b =
    let e = only (x.0, x.1, tok.Sign sg.Close ∷ x.2) (behind_none S found ts us x none is b) in
    record {
      same = ap (λ (p : List A × Bool × List Token). p.0) e;
      flag = ap (λ (p : List A × Bool × List Token). p.1) e;
      closed = ap (λ (p : List A × Bool × List Token). p.2) e;
      least = b.least;
      most = b.most;
    }

pub given_not_several : {A : Type 0} (all : List A) (u : Bool) (r : List Token) (x : List A × Bool × List Token) → GivenBetween all u r x → NotSeveral all → ⊥
given_not_several {A = A} all u r x g h =
    let e = ap (λ (ys : List A). length ys) g.same in let l = g.least in let m = g.most in h (omega arith) (omega arith)

pub given_is : {A : Type 0} (all items : List A) (u : Bool) (r rest : List Token) (x : List A × Bool × List Token) → GivenBetween all u r x → r ≡ tok.Sign sg.Close ∷ rest → items ≡ all → (items, u, rest) ≡ x
given_is all items u r rest x g is same = triple_is items u rest x (same ∙ g.same) g.flag (same_tail (tok.Sign sg.Close) rest x.2 (sym is ∙ g.closed))

pub between_spelled : {A : Type 0} (S : A → Bool → List Token → List Token → Type 0) (found all items : List A) (u : Bool) (ts us r rest : List Token) → found ≡ [] → ts ≡ tok.Sign sg.Open ∷ us →
    Behind S found false us (all, u, r) → r ≡ tok.Sign sg.Close ∷ rest → IsSeveral all items → Between S ts (items, u, rest)
between_spelled {A = A} S found all items u ts us r rest none is b closed few =
    let same : b.items ≡ items = sym (few.same ∙ b.joined ∙ ap (λ ys. ys ++ b.items) none) in
    let P : List A → Type 0 = λ ys. Listed S ys b.flag us r in
    let Q : Bool → Type 0 = λ w. Listed S items w us r in
    let R : List Token → Type 0 = λ vs. Listed S items u us vs in
    let l = few.least in let m = few.most in let e = ap (λ (ys : List A). length ys) few.same in
    record { inside = us; opened = is; least = omega arith; most = omega arith; spelled = subst R closed (subst Q (sym b.either) (subst P same b.spelled)) }

pub one_between : {A : Type 0} (S : A → Bool → List Token → List Token → Type 0) → IsOne S → (ts : List Token) (x : List A × Bool × List Token) → Between S ts x → Only (Between S ts) x
one_between {A = A} S one ts x b y c =
    let e = one_listed S one b.spelled (close_ends x.2) (no_comma_at_close x.2) (listed_at S ts b.inside y b.opened c) (close_ends y.2) (no_comma_at_close y.2) in
    triple_is x.0 x.1 x.2 y (ap (λ (p : List A × Bool × List Token). p.0) e) (ap (λ (p : List A × Bool × List Token). p.1) e)
    (same_tail (tok.Sign sg.Close) x.2 y.2 (ap (λ (p : List A × Bool × List Token). p.2) e))
