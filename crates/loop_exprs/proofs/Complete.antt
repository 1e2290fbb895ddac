-- What is spelled is what the reader gives.
use Rattle.std.proofs.Common.{false, ◌≡◌, ℕ, ◌≤◌, Bool, true, ◌||◌, List, [], ◌∷◌, ◌++◌, length, Option, Some, None, refl, ap, sym, ◌∙◌, subst, arith, append_assoc}
use Rattle.std.proofs.lemmas.Bool.{le-leb}
use Rattle.loop_tokens.specs.declared.token.Token.{Token}
use Rattle.loop_tokens.specs.declared.token.Token.TheVariants as tok
use Rattle.loop_tokens.specs.declared.keyword.Keyword.{Keyword}
use Rattle.loop_tokens.specs.declared.keyword.Keyword.TheVariants as kw
use Rattle.loop_tokens.specs.declared.sign.Sign.TheVariants as sg
use Rattle.loop_tokens.specs.Literals.{number_of, text_of}
use Rattle.loop_data.specs.declared.expr.Op.{Op}
use Rattle.loop_data.specs.declared.expr.Word.{Word}
use Rattle.loop_data.specs.declared.expr.Expr.{Expr}
use Rattle.loop_data.specs.declared.expr.Expr.TheVariants as e
use Rattle.loop_data.specs.declared.value.Value.TheVariants as val
use Rattle.loop_exprs.specs.declared.level.Level.{Level}
use Rattle.loop_exprs.specs.declared.level.Level.TheVariants as level
use Rattle.loop_exprs.specs.Operations.{tighter, groups_left, word_of, extreme_of, constant_of, is_wide, positive_value, is_wide_negative, negative_value}
use Rattle.loop_exprs.specs.Grammar.{Spells, SpellsParts, NotFirst, NoNumberFirst, IsOperation}
use Rattle.loop_exprs.specs.Reading.{Read, Ends, Outcome, closed, applied, called, paired, beside, Reads, GoesOn, ReadsParts, ReadsAll}
use Rattle.loop_exprs.proofs.Sound.{IfRead, or_assoc}
use Rattle.loop_exprs.proofs.Follow.{Stops, behind, Starts, starts, behind_rank, Stops-mono, Stops-operator, Stops-separator, one_operation}

-- whatever the reader gives at ts, it is x and rest
abbrev pub Exactly : Level → Expr → Bool → List Token → List Token → Type 0
Exactly l x u ts rest = (r : Outcome) → Reads l ts r → r ≡ Some (x, u, rest)

-- Where operations group to the left, what the reader gives at ts is what it gives when it goes on behind x; elsewhere it is x.
abbrev pub Onward : Level → Expr → Bool → List Token → Outcome → Type 0
Onward level.Or x u rest r = GoesOn level.Or x u rest r
Onward level.And x u rest r = GoesOn level.And x u rest r
Onward level.Join x u rest r = GoesOn level.Join x u rest r
Onward level.Add x u rest r = GoesOn level.Add x u rest r
Onward level.Multiply x u rest r = GoesOn level.Multiply x u rest r
Onward l x u rest r = r ≡ Some (x, u, rest)

abbrev pub Claim : Level → Expr → Bool → List Token → List Token → Type 0
Claim l x u ts rest = Stops (behind l) rest → (r : Outcome) → Reads l ts r → Onward l x u rest r

goes_ends : {l : Level} {x : Expr} {u : Bool} {rest : List Token} {r : Outcome} → GoesOn l x u rest r → Ends l rest → r ≡ Some (x, u, rest)
goes_ends (GoesOn.ends h) end = refl
goes_ends (GoesOn.goes_none {o = o} h d) end = absurd (end o h)
goes_ends (GoesOn.goes {o = o} h d k) end = absurd (end o h)

settles : (l : Level) {x : Expr} {u : Bool} {rest : List Token} {r : Outcome} → Onward l x u rest r → Stops l rest → r ≡ Some (x, u, rest)
settles level.Or k s = goes_ends k (s level.Or (omega arith))
settles level.And k s = goes_ends k (s level.And (omega arith))
settles level.Join k s = goes_ends k (s level.Join (omega arith))
settles level.Add k s = goes_ends k (s level.Add (omega arith))
settles level.Multiply k s = goes_ends k (s level.Multiply (omega arith))
settles _ k s = k

pub exact : (l : Level) {x : Expr} {u : Bool} {ts rest : List Token} → Claim l x u ts rest → Stops l rest → Exactly l x u ts rest
exact l {rest = rest} claim s r d = settles l (claim (Stops-mono l (behind l) rest (behind_rank l) s) r d) s

pub onward_left : (l : Level) (x : Expr) (u : Bool) (rest : List Token) (r : Outcome) → groups_left l ≡ true → Onward l x u rest r → GoesOn l x u rest r
onward_left level.Or x u rest r g k = k
onward_left level.And x u rest r g k = k
onward_left level.Join x u rest r g k = k
onward_left level.Add x u rest r g k = k
onward_left level.Multiply x u rest r g k = k
onward_left _ x u rest r g k = cc

pub left_onward : (l : Level) (x : Expr) (u : Bool) (rest : List Token) (r : Outcome) → groups_left l ≡ true → GoesOn l x u rest r → Onward l x u rest r
left_onward level.Or x u rest r g k = k
left_onward level.And x u rest r g k = k
left_onward level.Join x u rest r g k = k
left_onward level.Add x u rest r g k = k
left_onward level.Multiply x u rest r g k = k
left_onward _ x u rest r g k = cc

pub behind_left : (l : Level) → groups_left l ≡ true → behind l ≡ tighter l
behind_left level.Or g = refl
behind_left level.And g = refl
behind_left level.Join g = refl
behind_left level.Add g = refl
behind_left level.Multiply g = refl
behind_left _ g = cc

-- what holds of what was read holds of its equal
pub carry : {A : Type 0} {x y : A} {u v : Bool} {ts us : List Token} (P : A → Bool → List Token → Type 0) → ◌≡◌ {A = Read A} (Some (x, u, ts)) (Some (y, v, us)) → P x u ts → P y v us
carry {A = A} P same h = subst (λ (r : Read A). IfRead r P) same h

abbrev IfCons : List Token → (Token → List Token → Type 0) → Type 0
IfCons [] P = Unit {0}
IfCons (t ∷ ts) P = P t ts

left_case : {l : Level} {x : Expr} {u : Bool} {ts rest : List Token} {r : Outcome} → Reads l ts r → groups_left l ≡ true → Exactly (tighter l) x u ts rest → GoesOn l x u rest r
left_case (Reads.left_none g d) h is = let same = is _ d in cc
left_case {l = l} {r = r} (Reads.left g d k) h is = carry (λ y v us. GoesOn l y v us r) (is _ d) k
left_case _ h is = cc

goes_case : {l : Level} {t : Token} {o : Op} {a b : Expr} {u v : Bool} {us rest : List Token} {r : Outcome} → GoesOn l a u (t ∷ us) r → IsOperation l t o →
    Exactly (tighter l) b v us rest → GoesOn l (e.Two o a b) (u || v) rest r
goes_case {o = o} (GoesOn.ends h) op is = absurd (h o op)
goes_case (GoesOn.goes_none h d) op is = let same = is _ d in cc
goes_case {l = l} {t = t} {o = o} {a = a} {b = b} {u = u} {v = v} {rest = rest} {r = r} (GoesOn.goes {o = o'} op' d k) op is =
    let which = (one_operation l l t o' o op' op).0 in
    let there = carry (λ y w us. GoesOn l (e.Two o' a y) (u || w) us r) (is _ d) k in
    subst (λ (p : Op). GoesOn l (e.Two p a b) (u || v) rest r) which there

compare_case : {t : Token} {o : Op} {a b : Expr} {u v : Bool} {ts us rest : List Token} {r : Outcome} → Reads level.Compare ts r → IsOperation level.Compare t o →
    Exactly level.Join a u ts (t ∷ us) → Exactly level.Join b v us rest → r ≡ Some (e.Two o a b, u || v, rest)
compare_case (Reads.compare_none d) op is next = let same = is _ d in cc
compare_case {o = o} (Reads.compare_one d h) op is next = absurd (carry (λ y w vs. Ends level.Compare vs) (is _ d) h o op)
compare_case (Reads.compare_half op' d f) op is next =
    let none = next _ (carry (λ y w vs. IfCons vs (λ z ws. Reads level.Join ws None)) (is _ d) f) in cc
compare_case {t = t} {o = o} {a = a} {b = b} {u = u} {v = v} {rest = rest} (Reads.compare {o = o'} {rest = rest'} {a = a'} {b = b'} {u = u'} {v = v'} op' d f) op is next =
    let there = carry (λ y w vs. IfCons vs (λ z ws. (IsOperation level.Compare z o') × Reads level.Join ws (Some (b', v', rest')))) (is _ d) (op', f) in
    let which = (one_operation level.Compare level.Compare t o' o there.0 op).0 in
    let left : a' ≡ a = carry (λ y w vs. a' ≡ y) (is _ d) refl in
    let flag : u' ≡ u = carry (λ y w vs. u' ≡ w) (is _ d) refl in
    carry (λ y w vs. ◌≡◌ {A = Outcome} (Some (e.Two o' a' b', u' || v', rest')) (Some (e.Two o a y, u || w, vs))) (next _ there.1)
    (ap (λ p. Some (e.Two p a' b', u' || v', rest')) which ∙ ap (λ y. Some (e.Two o y b', u' || v', rest')) left ∙ ap (λ w. Some (e.Two o a b', w || v', rest')) flag)
compare_case (Reads.left_none g d) op is next = cc
compare_case (Reads.left g d k) op is next = cc

one_case : {x : Expr} {u : Bool} {ts rest : List Token} {r : Outcome} → Reads level.Compare ts r → Exactly level.Join x u ts rest → Ends level.Compare rest → r ≡ Some (x, u, rest)
one_case (Reads.compare_none d) is h = let same = is _ d in cc
one_case (Reads.compare_one d end) is h = is _ d
one_case (Reads.compare_half {o = o} op d f) is h = absurd (carry (λ y w vs. Ends level.Compare vs) (sym (is _ d)) h o op)
one_case (Reads.compare {o = o} op d f) is h = absurd (carry (λ y w vs. Ends level.Compare vs) (sym (is _ d)) h o op)
one_case (Reads.left_none g d) is h = cc
one_case (Reads.left g d k) is h = cc

not_case : {x : Expr} {u : Bool} {ts rest : List Token} {r : Outcome} → Reads level.Not (tok.Keyword kw.Not ∷ ts) r → Exactly level.Not x u ts rest → r ≡ Some (e.Not x, u, rest)
not_case (Reads.not_none d) is = let same = is _ d in cc
not_case (Reads.not {rest = rest'} {x = y} {u = u'} d) is = carry (λ z w us. ◌≡◌ {A = Outcome} (Some (e.Not y, u', rest')) (Some (e.Not z, w, us))) (is _ d) refl
not_case (Reads.not_else h d) is = absurd (h _ refl)
not_case (Reads.left_none g d) is = cc
not_case (Reads.left g d k) is = cc

other_case : {x : Expr} {u : Bool} {ts rest : List Token} {r : Outcome} → Reads level.Not ts r → NotFirst (tok.Keyword kw.Not) ts → Exactly level.Compare x u ts rest → r ≡ Some (x, u, rest)
other_case (Reads.not_none d) h is = absurd (h _ refl)
other_case (Reads.not d) h is = absurd (h _ refl)
other_case (Reads.not_else g d) h is = is _ d
other_case (Reads.left_none g d) h is = cc
other_case (Reads.left g d k) h is = cc

negative_case : {n : List ℕ} {rest : List Token} {r : Outcome} → Reads level.Negate (tok.Sign sg.Minus ∷ tok.Number n ∷ rest) r → r ≡ Some (e.Lit (val.Int (negative_value (number_of n))), is_wide_negative (number_of n), rest)
negative_case Reads.negative = refl
negative_case (Reads.negate_none g d) = absurd (g _ _ refl)
negative_case (Reads.negate g d) = absurd (g _ _ refl)
negative_case (Reads.negate_else g d) = absurd (g _ refl)
negative_case (Reads.left_none g d) = cc
negative_case (Reads.left g d k) = cc

negate_case : {x : Expr} {u : Bool} {ts rest : List Token} {r : Outcome} → Reads level.Negate (tok.Sign sg.Minus ∷ ts) r → NoNumberFirst ts → Exactly level.Negate x u ts rest → r ≡ Some (e.Neg x, u, rest)
negate_case Reads.negative h is = absurd (h _ _ refl)
negate_case (Reads.negate_none g d) h is = let same = is _ d in cc
negate_case (Reads.negate {rest = rest'} {x = y} {u = u'} g d) h is = carry (λ z w us. ◌≡◌ {A = Outcome} (Some (e.Neg y, u', rest')) (Some (e.Neg z, w, us))) (is _ d) refl
negate_case (Reads.negate_else g d) h is = absurd (g _ refl)
negate_case (Reads.left_none g d) h is = cc
negate_case (Reads.left g d k) h is = cc

unsigned_case : {x : Expr} {u : Bool} {ts rest : List Token} {r : Outcome} → Reads level.Negate ts r → NotFirst (tok.Sign sg.Minus) ts → Exactly level.Atom x u ts rest → r ≡ Some (x, u, rest)
unsigned_case (Reads.negate_else g d) h is = is _ d
unsigned_case (Reads.left_none g d) h is = cc
unsigned_case (Reads.left g d k) h is = cc
unsigned_case _ h is = absurd (h _ refl)

number_case : {n : List ℕ} {rest : List Token} {r : Outcome} → Reads level.Atom (tok.Number n ∷ rest) r → r ≡ Some (e.Lit (val.Int (positive_value (number_of n))), is_wide (number_of n), rest)
number_case Reads.number = refl
number_case (Reads.no_atom i) = cc
number_case (Reads.left_none g d) = cc
number_case (Reads.left g d k) = cc

text_case : {raw : List ℕ} {rest : List Token} {r : Outcome} → Reads level.Atom (tok.Text raw ∷ rest) r → r ≡ Some (e.Lit (val.Text (text_of raw)), false, rest)
text_case Reads.text = refl
text_case (Reads.no_atom i) = cc
text_case (Reads.left_none g d) = cc
text_case (Reads.left g d k) = cc

name_case : {n : List ℕ} {rest : List Token} {r : Outcome} → Reads level.Atom (tok.Name n ∷ rest) r → r ≡ Some (e.Name n, false, rest)
name_case Reads.name = refl
name_case (Reads.no_atom i) = cc
name_case (Reads.left_none g d) = cc
name_case (Reads.left g d k) = cc

same_expr : (o : Option Expr) (x y : Expr) → o ≡ Some x → o ≡ Some y → x ≡ y
same_expr o x y h g = let both : ◌≡◌ {A = Option Expr} (Some x) (Some y) = sym h ∙ g in cc

constant_case : {k : Keyword} {x : Expr} {rest : List Token} {r : Outcome} → Reads level.Atom (tok.Keyword k ∷ rest) r → constant_of k ≡ Some x → r ≡ Some (x, false, rest)
constant_case {k = w} {x = x} {rest = rest} (Reads.constant {x = y} g) h = ap (λ z. Some (z, false, rest)) (same_expr (constant_of w) y x g h)
constant_case (Reads.call_alone g i) h = absurd (cc (sym g ∙ h))
constant_case (Reads.call_none g d) h = absurd (cc (sym g ∙ h))
constant_case (Reads.call g d same) h = absurd (cc (sym g ∙ h))
constant_case (Reads.no_atom i) h = cc
constant_case (Reads.left_none g d) h = cc
constant_case (Reads.left g d k) h = cc

-- whatever the reader gives of the parts, it is these and rest
abbrev pub ExactlyAll : List Expr → Bool → List Token → List Token → Type 0
ExactlyAll xs u ts rest = (r : Read (List Expr)) → ReadsAll ts r → r ≡ Some (xs, u, rest)

abbrev pub ExactlyParts : List Expr → Bool → List Expr → Bool → List Token → List Token → Type 0
ExactlyParts found w xs u ts rest = (r : Read (List Expr)) → ReadsParts found w ts r → r ≡ Some (found ++ xs, w || u, rest)

applied_case : {k : Keyword} {xs : List Expr} {u : Bool} {ts rest : List Token} {r : Outcome} → Reads level.Atom (tok.Keyword k ∷ tok.Sign sg.Open ∷ ts) r → constant_of k ≡ None → ExactlyAll xs u ts rest →
    r ≡ beside u rest (applied k xs)
applied_case (Reads.constant g) h is = absurd (cc (sym h ∙ g))
applied_case (Reads.call_alone g i) h is = absurd (i _ refl)
applied_case (Reads.call_none g d) h is = let same = is _ d in cc
applied_case {k = w} {r = r} (Reads.call g d same) h is = carry (λ ys v us. r ≡ beside v us (applied w ys)) (is _ d) same
applied_case (Reads.no_atom i) h is = cc
applied_case (Reads.left_none g d) h is = cc
applied_case (Reads.left g d k) h is = cc

group_case : {xs : List Expr} {u : Bool} {ts rest : List Token} {r : Outcome} → Reads level.Atom (tok.Sign sg.Open ∷ ts) r → ExactlyAll xs u ts rest → r ≡ beside u rest (closed xs)
group_case (Reads.group_none d) is = let same = is _ d in cc
group_case {r = r} (Reads.group d same) is = carry (λ ys v us. r ≡ beside v us (closed ys)) (is _ d) same
group_case (Reads.no_atom i) is = cc
group_case (Reads.left_none g d) is = cc
group_case (Reads.left g d k) is = cc

all_case : {xs : List Expr} {u : Bool} {ts rest : List Token} → ExactlyParts [] false xs u ts (tok.Sign sg.Close ∷ rest) → ExactlyAll xs u ts rest
all_case is r (ReadsAll.all_none d) = let same = is _ d in cc
all_case is r (ReadsAll.unclosed d h) = absurd (carry (λ ys v us. NotFirst (tok.Sign sg.Close) us) (is _ d) h _ refl)
all_case is r (ReadsAll.all {us = us} {xs = ys} {u = w} d) = carry (λ zs v vs. IfCons vs (λ z ws. ◌≡◌ {A = Read (List Expr)} (Some (ys, w, us)) (Some (zs, v, ws)))) (is _ d) refl

plain_case : {x : Expr} {u : Bool} {ts rest : List Token} {r : Outcome} → Reads level.Expr ts r → NotFirst (tok.Keyword kw.If) ts → Exactly level.Or x u ts rest → r ≡ Some (x, u, rest)
plain_case (Reads.no_choice h d) i is = is _ d
plain_case (Reads.left_none g d) i is = cc
plain_case (Reads.left g d k) i is = cc
plain_case _ i is = absurd (i _ refl)

choice_case : {c a b : Expr} {u v w : Bool} {ts us vs rest : List Token} {r : Outcome} → Reads level.Expr (tok.Keyword kw.If ∷ ts) r → Exactly level.Expr c u ts (tok.Keyword kw.Then ∷ us) →
    Exactly level.Expr a v us (tok.Keyword kw.Else ∷ vs) → NotFirst (tok.Keyword kw.Nothing) vs → Exactly level.Expr b w vs rest → r ≡ Some (e.If c a (Some b), u || v || w, rest)
choice_case (Reads.choice_none d) is next free after = let same = is _ d in cc
choice_case (Reads.no_then d h) is next free after = absurd (carry (λ y p ws. NotFirst (tok.Keyword kw.Then) ws) (is _ d) h _ refl)
choice_case (Reads.value_none d f) is next free after = let none = next _ (carry (λ y p ws. IfCons ws (λ z zs. Reads level.Expr zs None)) (is _ d) f) in cc
choice_case (Reads.no_else {a = a'} {v = v'} {vs = vs'} d f h) is next free after =
    let two = next _ (carry (λ y p ws. IfCons ws (λ z zs. Reads level.Expr zs (Some (a', v', vs')))) (is _ d) f) in absurd (carry (λ y p ws. NotFirst (tok.Keyword kw.Else) ws) two h _ refl)
choice_case (Reads.choice_some {a = a'} {v = v'} {rest = rest'} d f) is next free after =
    let two = next _ (carry (λ y p ws. IfCons ws (λ z zs. Reads level.Expr zs (Some (a', v', tok.Keyword kw.Else ∷ tok.Keyword kw.Nothing ∷ rest')))) (is _ d) f) in
    absurd (carry (λ y p ws. IfCons ws (λ z zs. NotFirst (tok.Keyword kw.Nothing) zs → ⊥)) two (λ no. no _ refl) free)
choice_case (Reads.other_none {a = a'} {v = v'} {vs = vs'} d f h g) is next free after =
    let two = next _ (carry (λ y p ws. IfCons ws (λ z zs. Reads level.Expr zs (Some (a', v', tok.Keyword kw.Else ∷ vs')))) (is _ d) f) in
    let none = after _ (carry (λ y p ws. IfCons ws (λ z zs. Reads level.Expr zs None)) two g) in cc
choice_case {c = c} {a = a} {u = u} {v = v} (Reads.choice {c = c'} {a = a'} {b = b'} {u = u'} {v = v'} {w = w'} {vs = vs'} {rest = rest'} d f h g) is next free after =
    let two = next _ (carry (λ y p ws. IfCons ws (λ z zs. Reads level.Expr zs (Some (a', v', tok.Keyword kw.Else ∷ vs')))) (is _ d) f) in
    let three = after _ (carry (λ y p ws. IfCons ws (λ z zs. Reads level.Expr zs (Some (b', w', rest')))) two g) in
    let test : c' ≡ c = carry (λ y p ws. c' ≡ y) (is _ d) refl in
    let flag : u' ≡ u = carry (λ y p ws. u' ≡ p) (is _ d) refl in
    let value : a' ≡ a = carry (λ y p ws. a' ≡ y) two refl in
    let also : v' ≡ v = carry (λ y p ws. v' ≡ p) two refl in
    carry (λ y p ws. ◌≡◌ {A = Outcome} (Some (e.If c' a' (Some b'), u' || v' || w', rest')) (Some (e.If c a (Some y), u || v || p, ws))) three
    (ap (λ z. Some (e.If z a' (Some b'), u' || v' || w', rest')) test ∙ ap (λ z. Some (e.If c z (Some b'), u' || v' || w', rest')) value
    ∙ ap (λ z. Some (e.If c a (Some b'), z || v' || w', rest')) flag ∙ ap (λ z. Some (e.If c a (Some b'), u || z || w', rest')) also)
choice_case (Reads.no_choice h d) is next free after = absurd (h _ refl)
choice_case (Reads.left_none g d) is next free after = cc
choice_case (Reads.left g d k) is next free after = cc

some_case : {c a : Expr} {u v : Bool} {ts us rest : List Token} {r : Outcome} → Reads level.Expr (tok.Keyword kw.If ∷ ts) r → Exactly level.Expr c u ts (tok.Keyword kw.Then ∷ us) →
    Exactly level.Expr a v us (tok.Keyword kw.Else ∷ tok.Keyword kw.Nothing ∷ rest) → r ≡ Some (e.If c a None, u || v, rest)
some_case (Reads.choice_none d) is next = let same = is _ d in cc
some_case (Reads.no_then d h) is next = absurd (carry (λ y p ws. NotFirst (tok.Keyword kw.Then) ws) (is _ d) h _ refl)
some_case (Reads.value_none d f) is next = let none = next _ (carry (λ y p ws. IfCons ws (λ z zs. Reads level.Expr zs None)) (is _ d) f) in cc
some_case (Reads.no_else {a = a'} {v = v'} {vs = vs'} d f h) is next =
    let two = next _ (carry (λ y p ws. IfCons ws (λ z zs. Reads level.Expr zs (Some (a', v', vs')))) (is _ d) f) in absurd (carry (λ y p ws. NotFirst (tok.Keyword kw.Else) ws) two h _ refl)
some_case {c = c} {a = a} {u = u} {v = v} (Reads.choice_some {c = c'} {a = a'} {u = u'} {v = v'} {rest = rest'} d f) is next =
    let two = next _ (carry (λ y p ws. IfCons ws (λ z zs. Reads level.Expr zs (Some (a', v', tok.Keyword kw.Else ∷ tok.Keyword kw.Nothing ∷ rest')))) (is _ d) f) in
    let test : c' ≡ c = carry (λ y p ws. c' ≡ y) (is _ d) refl in
    let flag : u' ≡ u = carry (λ y p ws. u' ≡ p) (is _ d) refl in
    carry (λ y p ws. IfCons ws (λ z zs. IfCons zs (λ q qs. ◌≡◌ {A = Outcome} (Some (e.If c' a' None, u' || v', rest')) (Some (e.If c y None, u || p, qs))))) two
    (ap (λ z. Some (e.If z a' None, u' || v', rest')) test ∙ ap (λ z. Some (e.If c a' None, z || v', rest')) flag)
some_case (Reads.other_none {a = a'} {v = v'} {vs = vs'} d f h g) is next =
    let two = next _ (carry (λ y p ws. IfCons ws (λ z zs. Reads level.Expr zs (Some (a', v', tok.Keyword kw.Else ∷ vs')))) (is _ d) f) in
    absurd (carry (λ y p ws. IfCons ws (λ z zs. NotFirst (tok.Keyword kw.Nothing) zs)) two h _ refl)
some_case (Reads.choice {a = a'} {v = v'} {vs = vs'} d f h g) is next =
    let two = next _ (carry (λ y p ws. IfCons ws (λ z zs. Reads level.Expr zs (Some (a', v', tok.Keyword kw.Else ∷ vs')))) (is _ d) f) in
    absurd (carry (λ y p ws. IfCons ws (λ z zs. NotFirst (tok.Keyword kw.Nothing) zs)) two h _ refl)
some_case (Reads.no_choice h d) is next = absurd (h _ refl)
some_case (Reads.left_none g d) is next = cc
some_case (Reads.left g d k) is next = cc

last_case : (found : List Expr) (w : Bool) {x : Expr} {u : Bool} {ts rest : List Token} → Exactly level.Expr x u ts rest → NotFirst (tok.Sign sg.Comma) rest → ExactlyParts found w (x ∷ []) u ts rest
last_case found w is h r (ReadsParts.parts_none d) = let same = is _ d in cc
last_case found w is h r (ReadsParts.last {v = v} {us = us} {x = y} d g) =
    carry (λ z p vs. ◌≡◌ {A = Read (List Expr)} (Some (found ++ y ∷ [], w || v, us)) (Some (found ++ z ∷ [], w || p, vs))) (is _ d) refl
last_case found w is h r (ReadsParts.more d k) = absurd (carry (λ y p us. NotFirst (tok.Sign sg.Comma) us → ⊥) (is _ d) (λ no. no _ refl) h)

more_case : (found : List Expr) (w : Bool) (x : Expr) (u : Bool) (xs : List Expr) (v : Bool) {ts us rest : List Token} → Exactly level.Expr x u ts (tok.Sign sg.Comma ∷ us) →
    ExactlyParts (found ++ x ∷ []) (w || u) xs v us rest → ExactlyParts found w (x ∷ xs) (u || v) ts rest
more_case found w x u xs v is next r (ReadsParts.parts_none d) = let same = is _ d in cc
more_case found w x u xs v is next r (ReadsParts.last d g) = absurd (carry (λ y p us. NotFirst (tok.Sign sg.Comma) us) (is _ d) g _ refl)
more_case found w x u xs v {rest = rest} is next r (ReadsParts.more d k) =
    let there = next r (carry (λ y p vs. IfCons vs (λ z ws. ReadsParts (found ++ y ∷ []) (w || p) ws r)) (is _ d) k) in
    there ∙ ap (λ ys. Some (ys, w || u || v, rest)) (append_assoc found (x ∷ []) xs) ∙ ap (λ p. Some (found ++ x ∷ xs, p, rest)) (or_assoc w u v)

pub closed_tuple : (xs : List Expr) → 2 ≤ length xs → length xs ≤ 4 → closed xs ≡ Some (e.Tuple xs)
closed_tuple [] h i = absurd (omega arith)
closed_tuple (x ∷ []) h i = absurd (omega arith)
closed_tuple (x ∷ y ∷ xs) h i = rw (le-leb (length xs) 2 (omega arith))

pub word_no_constant : (w : Keyword) (f : Word) → word_of w ≡ Some f → constant_of w ≡ None
word_no_constant kw.True f h = cc
word_no_constant kw.False f h = cc
word_no_constant kw.Place f h = cc
word_no_constant _ f h = refl

pub extreme_no_constant : (w : Keyword) (o : Op) → extreme_of w ≡ Some o → constant_of w ≡ None
extreme_no_constant kw.True o h = cc
extreme_no_constant kw.False o h = cc
extreme_no_constant kw.Place o h = cc
extreme_no_constant _ o h = refl

-- the claim for a tighter level gives that for the level
tight_case : (l : Level) (x : Expr) (u : Bool) (ts rest : List Token) → Starts (tighter l) ts → Claim (tighter l) x u ts rest → Claim l x u ts rest
tight_case level.Expr x u ts rest begins claim s r d = plain_case d begins.1 (exact level.Or claim (Stops-mono level.Expr level.Or rest (omega arith) s))
tight_case level.Or x u ts rest begins claim s r d = left_case d refl (exact level.And claim s)
tight_case level.And x u ts rest begins claim s r d = left_case d refl (exact level.Not claim s)
tight_case level.Not x u ts rest begins claim s r d = other_case d begins.2 (exact level.Compare claim (Stops-mono level.Not level.Compare rest (omega arith) s))
tight_case level.Compare x u ts rest begins claim s r d =
    one_case d (exact level.Join claim (Stops-mono level.Compare level.Join rest (omega arith) s)) (s level.Compare (omega arith))
tight_case level.Join x u ts rest begins claim s r d = left_case d refl (exact level.Add claim s)
tight_case level.Add x u ts rest begins claim s r d = left_case d refl (exact level.Multiply claim s)
tight_case level.Multiply x u ts rest begins claim s r d = left_case d refl (exact level.Negate claim s)
tight_case level.Negate x u ts rest begins claim s r d = unsigned_case d begins.3 (exact level.Atom claim (Stops-mono level.Negate level.Atom rest (omega arith) s))
tight_case level.Atom x u ts rest begins claim s r d = claim s r d

two_case : (l : Level) (t : Token) (o : Op) (a b : Expr) (u v : Bool) (ts us rest : List Token) → groups_left l ≡ true → IsOperation l t o →
    Claim l a u ts (t ∷ us) → Claim (tighter l) b v us rest → Claim l (e.Two o a b) (u || v) ts rest
two_case l t o a b u v ts us rest g op first next s r d =
    let here : Stops (behind l) (t ∷ us) = rw (behind_left l g) (Stops-operator l t us o op) in
    let there : Stops (tighter l) rest = rw (behind_left l g) at s in
    left_onward l _ _ rest r g (goes_case (onward_left l _ _ (t ∷ us) r g (first here r d)) op (exact (tighter l) next there))

mutual
  pub from : {l : Level} {x : Expr} {u : Bool} {ts rest : List Token} → Spells l x u ts rest → Claim l x u ts rest
  from (Spells.tight {l = l} {x = x} {u = u} {ts = ts} {rest = rest} d) s r k = tight_case l x u ts rest (starts d) (from d) s r k
  from (Spells.two {l = l} {t = t} {o = o} {a = a} {b = b} {u = u} {v = v} {ts = ts} {us = us} {rest = rest} g op d f) s r k =
      two_case l t o a b u v ts us rest g op (from d) (from f) s r k
  from (Spells.compare {t = t} {o = o} {us = us} {rest = rest} op d f) s r k =
      compare_case k op (exact level.Join (from d) (Stops-operator level.Compare t us o op)) (exact level.Join (from f) (Stops-mono level.Compare level.Join rest (omega arith) s))
  from (Spells.not d) s r k = not_case k (exact level.Not (from d) s)
  from Spells.negative s r k = negative_case k
  from (Spells.negate h d) s r k = negate_case k h (exact level.Negate (from d) s)
  from Spells.number s r k = number_case k
  from Spells.text s r k = text_case k
  from Spells.name s r k = name_case k
  from (Spells.constant h) s r k = constant_case k h
  from (Spells.call {k = w} {w = f} {x = x} {u = u} {rest = rest} h d) s r k =
      applied_case k (word_no_constant w f h) (all_case (last_case [] false (exact level.Expr (from d) (Stops-separator level.Expr (tok.Sign sg.Close) rest refl)) (λ us q. cc)))
      ∙ ap (λ o. beside u rest (called o (Some x))) h
  from (Spells.extreme {k = w} {o = o} {a = a} {b = b} {u = u} {v = v} {us = us} {rest = rest} h d f) s r k =
      applied_case k (extreme_no_constant w o h) (all_case (more_case [] false a u (b ∷ []) v (exact level.Expr (from d) (Stops-separator level.Expr (tok.Sign sg.Comma) us refl))
      (last_case (a ∷ []) u (exact level.Expr (from f) (Stops-separator level.Expr (tok.Sign sg.Close) rest refl)) (λ vs q. cc))))
      ∙ ap (λ p. beside (u || v) rest (paired p (Some a) (Some b))) h
  from (Spells.choice {us = us} {vs = vs} d f g) s r k = choice_case k (exact level.Expr (from d) (Stops-separator level.Expr (tok.Keyword kw.Then) us refl))
      (exact level.Expr (from f) (Stops-separator level.Expr (tok.Keyword kw.Else) vs refl)) (starts g) (exact level.Expr (from g) s)
  from (Spells.choice_some {us = us} {rest = rest} d f) s r k = some_case k (exact level.Expr (from d) (Stops-separator level.Expr (tok.Keyword kw.Then) us refl))
      (exact level.Expr (from f) (Stops-separator level.Expr (tok.Keyword kw.Else) (tok.Keyword kw.Nothing ∷ rest) refl))
  from (Spells.group {rest = rest} d) s r k = group_case k (all_case (last_case [] false (exact level.Expr (from d) (Stops-separator level.Expr (tok.Sign sg.Close) rest refl)) (λ us q. cc)))
  from (Spells.tuple {xs = xs} {u = u} {rest = rest} h i p) s r k =
      group_case k (all_case (from_parts p [] false (Stops-separator level.Expr (tok.Sign sg.Close) rest refl) (λ us q. cc))) ∙ ap (beside u rest) (closed_tuple xs h i)

  pub from_parts : {xs : List Expr} {u : Bool} {ts rest : List Token} → SpellsParts xs u ts rest → (found : List Expr) (w : Bool) → Stops level.Expr rest → NotFirst (tok.Sign sg.Comma) rest → ExactlyParts found w xs u ts rest
  from_parts (SpellsParts.last d) found w s h = last_case found w (exact level.Expr (from d) s) h
  from_parts (SpellsParts.more {x = x} {xs = xs} {u = u} {v = v} {us = us} d p) found w s h =
      more_case found w x u xs v (exact level.Expr (from d) (Stops-separator level.Expr (tok.Sign sg.Comma) us refl)) (from_parts p (found ++ x ∷ []) (w || u) s h)
