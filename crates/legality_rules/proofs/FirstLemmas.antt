-- The first of a list of offences, and that it is one.
use Rattle.std.proofs.Common.{◌≡◌, ℕ, ◌≤◌, ◌<◌, Bool, true, false, List, [], ◌∷◌, ◌++◌, Option, Some, None, refl, sym, ◌∙◌, ap, subst, arith}
use Rattle.std.specs.Prelude.{◌==◌, nat_lt, ◌&&◌, ◌||◌, if◌then◌else◌, not}
use Rattle.std.specs.List.{list_all}
use Rattle.std.proofs.lemmas.Bool.{ltb-false, ltb-true, le-ltb, eq-eqb, eqb-true}
use Rattle.legality_rules.specs.declared.refusal.Offence.{Offence}
use Rattle.legality_rules.specs.Offences.{precedes, IsFirst, or_earlier, first_among}

-- ---- the order of offences

first_false : (a b : Bool) → (a || b) ≡ false → a ≡ false
first_false true b e = e
first_false false b e = refl

second_false : (a b : Bool) → (a || b) ≡ false → b ≡ false
second_false true b e = absurd (cc)
second_false false b e = e

right_false : (a b : Bool) → a ≡ true → (a && b) ≡ false → b ≡ false
right_false true b h e = e
right_false false b h e = absurd (cc)

-- what it is not to precede
pub not_before : (a b c d : ℕ) → (nat_lt a c || (a == c && nat_lt b d)) ≡ false → (c ≤ a) × (a ≡ c → d ≤ b)
not_before a b c d e = (
  ltb-false a c (first_false (nat_lt a c) (a == c && nat_lt b d) e),
  λ s. ltb-false b d (right_false (a == c) (nat_lt b d) (eq-eqb a c s) (second_false (nat_lt a c) (a == c && nat_lt b d) e)),
)

false_by : (t : Bool) (c : Bool) → (t ≡ true → c ≡ false) → (t && c) ≡ false
false_by true c h = h refl
false_by false c h = refl

or_false_by : (a b : Bool) → a ≡ false → b ≡ false → (a || b) ≡ false
or_false_by true b h g = h
or_false_by false b h g = g

pub is_not_before : (a b c d : ℕ) → c ≤ a → (a ≡ c → d ≤ b) → (nat_lt a c || (a == c && nat_lt b d)) ≡ false
is_not_before a b c d h g =
    or_false_by (nat_lt a c) (a == c && nat_lt b d) (le-ltb a c h) (false_by (a == c) (nat_lt b d) (λ t. le-ltb b d (g (eqb-true a c t))))

-- an offence that precedes none that doesn't precede a third doesn't precede it
pub not_preceding : (o p q : Offence) → precedes p o ≡ false → precedes q p ≡ false → precedes q o ≡ false
not_preceding o p q e f =
    let x : (o.line ≤ p.line) × (p.line ≡ o.line → o.number ≤ p.number) = not_before p.line p.number o.line o.number e in
    let y : (p.line ≤ q.line) × (q.line ≡ p.line → p.number ≤ q.number) = not_before q.line q.number p.line p.number f in
    let h : o.line ≤ p.line = x.0 in
    let g : p.line ≤ q.line = y.0 in
    is_not_before q.line q.number o.line o.number (omega arith)
    (λ s. let m : o.number ≤ p.number = x.1 (omega arith) in let n : p.number ≤ q.number = y.1 (omega arith) in omega arith)

pub left_true : (a b : Bool) → (a && b) ≡ true → a ≡ true
left_true true b e = refl
left_true false b e = e

pub right_true : (a b : Bool) → (a && b) ≡ true → b ≡ true
right_true true b e = e
right_true false b e = absurd (cc)

pub not_true : (a : Bool) → not a ≡ true → a ≡ false
not_true true e = absurd (cc)
not_true false e = refl

pub not_false : (a : Bool) → a ≡ false → not a ≡ true
not_false true e = absurd (cc)
not_false false e = refl

-- what it is to precede
turned : (a b c d : ℕ) (t u v : Bool) → nat_lt a c ≡ t → (a == c) ≡ u → nat_lt b d ≡ v → (t || (u && v)) ≡ true → (nat_lt c a || (c == a && nat_lt d b)) ≡ false
turned a b c d true u v h k l e = let g : a < c = ltb-true a c h in is_not_before c d a b (omega arith) (λ s. absurd (omega arith))
turned a b c d false true true h k l e =
    let s : a ≡ c = eqb-true a c k in let g : b < d = ltb-true b d l in is_not_before c d a b (omega arith) (λ q. omega arith)
turned a b c d false true false h k l e = absurd (cc)
turned a b c d false false v h k l e = absurd (cc)

-- of two offences one at most precedes the other
pub one_way : (o p : Offence) → precedes o p ≡ true → precedes p o ≡ false
one_way o p e = turned o.line o.number p.line p.number (nat_lt o.line p.line) (o.line == p.line) (nat_lt o.number p.number) refl refl refl e

-- ---- tests of lists

all_of : {X : Type 0} (f g : X → Bool) → ((x : X) → f x ≡ true → g x ≡ true) → (xs : List X) → list_all f xs ≡ true → list_all g xs ≡ true
all_of f g h [] e = refl
all_of f g h (x ∷ xs) e =
    ap (λ b. b && list_all g xs) (h x (left_true (f x) (list_all f xs) e)) ∙ all_of f g h xs (right_true (f x) (list_all f xs) e)

pub all_joined : {X : Type 0} (f : X → Bool) (xs ys : List X) → list_all f xs ≡ true → list_all f ys ≡ true → list_all f (xs ++ ys) ≡ true
all_joined f [] ys e h = h
all_joined f (x ∷ xs) ys e h =
    ap (λ b. b && list_all f (xs ++ ys)) (left_true (f x) (list_all f xs) e) ∙ all_joined f xs ys (right_true (f x) (list_all f xs) e) h

pub at_middle : {X : Type 0} (f : X → Bool) (xs : List X) (y : X) (ys : List X) → list_all f (xs ++ y ∷ ys) ≡ true → f y ≡ true
at_middle f [] y ys e = left_true (f y) (list_all f ys) e
at_middle f (x ∷ xs) y ys e = at_middle f xs y ys (right_true (f x) (list_all f (xs ++ y ∷ ys)) e)

-- ---- the first is found

-- none where the list is empty, else the first
abbrev pub FirstOf : List Offence → Option Offence → Type 0
FirstOf os None = os ≡ []
FirstOf os (Some o) = IsFirst os o

-- nothing in a list whose first is q precedes p, where q doesn't
none_before : (p q : Offence) (os : List Offence) → precedes q p ≡ false → IsFirst os q → list_all (λ r. not (precedes r p)) os ≡ true
none_before p q os e first =
    let f : Offence → Bool = λ r. not (precedes r p) in
    let test : List Offence → Type 0 = λ rs. list_all f rs ≡ true in
    subst test (sym first.stands)
    (all_joined f first.before (q ∷ first.rest)
    (all_of (precedes q) f (λ r h. not_false (precedes r p) (not_preceding p q r e (one_way q r h))) first.before first.is_earlier)
    (ap (λ b. b && list_all f first.rest) (not_false (precedes q p) e)
    ∙ all_of (λ r. not (precedes r q)) f (λ r h. not_false (precedes r p) (not_preceding p q r e (not_true (precedes r q) h))) first.rest first.none_earlier))

picked : (p q : Offence) (os : List Offence) → IsFirst os q → (t : Bool) → precedes q p ≡ t → IsFirst (p ∷ os) (if t then q else p)
picked p q os first true e = record {
  before = p ∷ first.before;
  rest = first.rest;
  stands = ap (λ rs. p ∷ rs) first.stands;
  is_earlier = ap (λ b. b && list_all (precedes q) first.before) e ∙ first.is_earlier;
  none_earlier = first.none_earlier;
}
picked p q os first false e = record { before = []; rest = os; stands = refl; is_earlier = refl; none_earlier = none_before p q os e first }

with_first : (p : Offence) (os : List Offence) (f : Option Offence) → FirstOf os f → IsFirst (p ∷ os) (or_earlier p f)
with_first p os None e = record { before = []; rest = os; stands = refl; is_earlier = refl; none_earlier = ap (list_all (λ r. not (precedes r p))) e }
with_first p os (Some q) first = picked p q os first (precedes q p) refl

pub first_of : (os : List Offence) → FirstOf os (first_among os)
first_of [] = refl
first_of (p ∷ os) = with_first p os (first_among os) (first_of os)

pub found_is_first : (os : List Offence) (o : Offence) → first_among os ≡ Some o → IsFirst os o
found_is_first os o e = subst (FirstOf os) e (first_of os)

-- ---- what is first is found

pub kept : (o : Offence) (os : List Offence) (f : Option Offence) → list_all (λ p. not (precedes p o)) os ≡ true → FirstOf os f → or_earlier o f ≡ o
kept o os None h first = refl
kept o os (Some q) h first =
    let f : Offence → Bool = λ p. not (precedes p o) in
    let test : List Offence → Type 0 = λ rs. list_all f rs ≡ true in
    ap (λ b. if b then q else o) (not_true (precedes q o) (at_middle f first.before q first.rest (subst test first.stands h)))

pub found_at : (o : Offence) (rest before : List Offence) → list_all (precedes o) before ≡ true → list_all (λ p. not (precedes p o)) rest ≡ true → first_among (before ++ o ∷ rest) ≡ Some o
found_at o rest [] e h = ap Some (kept o rest (first_among rest) h (first_of rest))
found_at o rest (b ∷ before) e h =
    ap (λ f. Some (or_earlier b f)) (found_at o rest before (right_true (precedes o b) (list_all (precedes o) before) e) h)
    ∙ ap (λ t. Some (if t then o else b)) (left_true (precedes o b) (list_all (precedes o) before) e)

pub first_is_found : (os : List Offence) (o : Offence) → IsFirst os o → first_among os ≡ Some o
first_is_found os o first = ap first_among first.stands ∙ found_at o first.rest first.before first.is_earlier first.none_earlier

-- ---- the laws

some_inj : (o p : Offence) (f : Option Offence) → f ≡ Some o → f ≡ Some p → o ≡ p
some_inj o p None e h = absurd (cc)
some_inj o p (Some q) e h = cc

pub one_is_first : (os : List Offence) (o p : Offence) → IsFirst os o → IsFirst os p → o ≡ p
one_is_first os o p first other = some_inj o p (first_among os) (first_is_found os o first) (first_is_found os p other)

none_first : (os : List Offence) (f : Option Offence) → FirstOf os f → f ≡ None → os ≡ []
none_first os None first e = first
none_first os (Some o) first e = absurd (cc)

pub none_is_empty : (os : List Offence) → first_among os ≡ None → os ≡ []
none_is_empty os e = none_first os (first_among os) (first_of os) e
