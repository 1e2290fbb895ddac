-- The first offence that a walk over entries meets, entry by entry, and the first offence of entries whose lines climb.
use Rattle.std.proofs.Common.{◌≡◌, ℕ, ◌<◌, ◌≤◌, ◌+◌, Bool, true, false, List, [], ◌∷◌, ◌++◌, Option, Some, None, refl, sym, ◌∙◌, ap, subst, arith, append_assoc, append-nil}
use Rattle.std.specs.Prelude.{nat_lt, ◌==◌, ◌&&◌, ◌||◌, if◌then◌else◌}
use Rattle.std.proofs.lemmas.Bool.{eq-eqb, lt-ltb}
use Rattle.legality_rules.specs.declared.refusal.Offence.{Offence}
use Rattle.legality_rules.specs.Lines.{Entry}
use Rattle.legality_rules.specs.Rules.{Outline, Spot, Rule, rules, carried_scratches, unknown_names, names_bound_twice, carried_variables, reducers_used, reducers_with_other_towers, types_differ, starts_not_allowed, heads_not_splittable, sites_too_many}
use Rattle.legality_rules.specs.Offences.{offence, precedes, first_among, offences_at, offences_after}
use Rattle.legality_rules.specs.Cuts.{earlier_of, or_else, first_named, first_broken}
use Rattle.legality_rules.specs.Rising.{Within}
use Rattle.legality_rules.proofs.FirstLemmas.{is_not_before}
use Rattle.legality_rules.proofs.CutLemmas.{first_at_entry}
use Rattle.legality_rules.proofs.RisingLemmas.{first_of_rising}

pub or_else_assoc : (a b c : Option Offence) → or_else (or_else a b) c ≡ or_else a (or_else b c)
or_else_assoc None b c = refl
or_else_assoc (Some o) b c = refl

pub or_none : (o : Option Offence) → or_else o None ≡ o
or_none None = refl
or_none (Some o) = refl

pub earlier_none : (o : Option Offence) → earlier_of o None ≡ o
earlier_none None = refl
earlier_none (Some o) = refl

-- ---- what is met first

abbrev pub Finding : Type 0
Finding = Spot → Option Offence

abbrev pub first_met : Finding → List Entry → List Entry → Option Offence
first_met f before [] = None
first_met f before (e ∷ es) = or_else (f (record { earlier = before; here = e })) (first_met f (before ++ e ∷ []) es)

pub met_joined : (f : Finding) (before xs ys : List Entry) →
    first_met f before (xs ++ ys) ≡ or_else (first_met f before xs) (first_met f (before ++ xs) ys)
met_joined f before [] ys = ap (λ b. first_met f b ys) (sym (append-nil before))
met_joined f before (x ∷ xs) ys =
    let spot : Spot = record { earlier = before; here = x } in
    ap (or_else (f spot))
    (met_joined f (before ++ x ∷ []) xs ys
    ∙ ap (λ b. or_else (first_met f (before ++ x ∷ []) xs) (first_met f b ys)) (append_assoc before (x ∷ []) xs))
    ∙ sym (or_else_assoc (f spot) (first_met f (before ++ x ∷ []) xs) (first_met f (before ++ x ∷ xs) ys))

-- ---- entries whose lines climb

abbrev pub Climbs : ℕ → ℕ → List Entry → Type 0
Climbs n m [] = n ≤ m
Climbs n m (e ∷ es) = (n ≤ e.line) × Climbs (e.line + 1) m es

pub climbs_from : (n k m : ℕ) (es : List Entry) → n ≤ k → Climbs k m es → Climbs n m es
climbs_from n k m [] h c = omega arith
climbs_from n k m (e ∷ es) h c = let g : k ≤ e.line = c.0 in (omega arith, c.1)

pub climbs_to : (n k m l : ℕ) (es : List Entry) → n ≤ k → m ≤ l → Climbs k m es → Climbs n l es
climbs_to n k m l [] h g c = omega arith
climbs_to n k m l (e ∷ es) h g c = let f : k ≤ e.line = c.0 in (omega arith, climbs_to (e.line + 1) (e.line + 1) m l es (omega arith) g c.1)

pub climbs_joined : (n k m : ℕ) (xs ys : List Entry) → Climbs n k xs → Climbs k m ys → Climbs n m (xs ++ ys)
climbs_joined n k m [] ys a b = climbs_from n k m ys a b
climbs_joined n k m (x ∷ xs) ys a b = (a.0, climbs_joined (x.line + 1) k m xs ys a.1 b)

pub climbs_end : (n m : ℕ) (es : List Entry) → Climbs n m es → n ≤ m
climbs_end n m [] c = c
climbs_end n m (e ∷ es) c = let g : n ≤ e.line = c.0 in let h : e.line + 1 ≤ m = climbs_end (e.line + 1) m es c.1 in omega arith

pub wider : (n k m : ℕ) (es : List Entry) → n ≤ k → Within k m es → Within n m es
wider n k m [] h w = tt
wider n k m (e ∷ es) h w = let g : k ≤ e.line = w.0.0 in ((omega arith, w.0.1), wider n k m es h w.1)

pub climbs_within : (n m : ℕ) (es : List Entry) → Climbs n m es → Within n m es
climbs_within n m [] c = tt
climbs_within n m (e ∷ es) c =
    let g : n ≤ e.line = c.0 in
    let h : e.line + 1 ≤ m = climbs_end (e.line + 1) m es c.1 in
    ((g, omega arith), wider n (e.line + 1) m es (omega arith) (climbs_within (e.line + 1) m es c.1))

-- what is met first stands on a line of the entries, where a finding is on its own line
abbrev pub OnItsLine : Finding → Type 0
OnItsLine f = (spot : Spot) (o : Offence) → f spot ≡ Some o → o.line ≡ spot.here.line

met_cases : (n line : ℕ) (x y : Option Offence) (o : Offence) → n ≤ line → (x ≡ Some o → o.line ≡ line) → (y ≡ Some o → n ≤ o.line) → or_else x y ≡ Some o → n ≤ o.line
met_cases n line None y o h a b e = b e
met_cases n line (Some p) y o h a b e = let q : o.line ≡ line = a e in omega arith

pub met_above : (f : Finding) → OnItsLine f → (n m : ℕ) (before es : List Entry) → Climbs n m es → (o : Offence) → first_met f before es ≡ Some o → n ≤ o.line
met_above f on n m before [] c o e = absurd (cc)
met_above f on n m before (x ∷ es) c o e =
    let spot : Spot = record { earlier = before; here = x } in
    let h : n ≤ x.line = c.0 in
    met_cases n x.line (f spot) (first_met f (before ++ x ∷ []) es) o h (on spot o)
    (λ g. let k : x.line + 1 ≤ o.line = met_above f on (x.line + 1) m (before ++ x ∷ []) es c.1 o g in omega arith) e

below_cases : (line m : ℕ) (x y : Option Offence) (o : Offence) → line < m → (x ≡ Some o → o.line ≡ line) → (y ≡ Some o → o.line < m) → or_else x y ≡ Some o → o.line < m
below_cases line m None y o h a b e = b e
below_cases line m (Some p) y o h a b e = let q : o.line ≡ line = a e in omega arith

pub met_below : (f : Finding) → OnItsLine f → (n m : ℕ) (before es : List Entry) → Climbs n m es → (o : Offence) → first_met f before es ≡ Some o → o.line < m
met_below f on n m before [] c o e = absurd (cc)
met_below f on n m before (x ∷ es) c o e =
    let spot : Spot = record { earlier = before; here = x } in
    let h : x.line + 1 ≤ m = climbs_end (x.line + 1) m es c.1 in
    below_cases x.line m (f spot) (first_met f (before ++ x ∷ []) es) o (omega arith) (on spot o) (met_below f on (x.line + 1) m (before ++ x ∷ []) es c.1 o) e

-- the first offence of entries that climb is the first that is met
pub first_of_climbing : (outline : Outline) (n m : ℕ) (before es : List Entry) → Climbs n m es →
    first_among (offences_after outline before es) ≡ first_met (λ spot. first_broken outline spot rules) before es
first_of_climbing outline n m before [] c = refl
first_of_climbing outline n m before (e ∷ es) c =
    let spot : Spot = record { earlier = before; here = e } in
    let h : n ≤ e.line = c.0 in
    let alone : Within n (e.line + 1) (e ∷ []) = ((h, omega arith), tt) in
    first_of_rising outline before (e ∷ []) es n (e.line + 1) m alone (climbs_within (e.line + 1) m es c.1)
    ∙ ap (λ os. or_else (first_among os) (first_among (offences_after outline (before ++ e ∷ []) es))) (append-nil (offences_at outline spot))
    ∙ ap (λ o. or_else o (first_among (offences_after outline (before ++ e ∷ []) es))) (first_at_entry outline spot)
    ∙ ap (or_else (first_broken outline spot rules)) (first_of_climbing outline (e.line + 1) m (before ++ e ∷ []) es c.1)

-- ---- the fourth rule, and all others

-- all rules but the fourth
abbrev pub others : List (ℕ × Rule)
others =
    (1, unknown_names)
    ∷ (2, names_bound_twice)
    ∷ (3, carried_variables)
    ∷ (5, reducers_used)
    ∷ (6, reducers_with_other_towers)
    ∷ (7, types_differ)
    ∷ (8, starts_not_allowed)
    ∷ (9, heads_not_splittable)
    ∷ (10, sites_too_many)
    ∷ []

abbrev pub late : List (ℕ × Rule)
late =
    (5, reducers_used)
    ∷ (6, reducers_with_other_towers)
    ∷ (7, types_differ)
    ∷ (8, starts_not_allowed)
    ∷ (9, heads_not_splittable)
    ∷ (10, sites_too_many)
    ∷ []

abbrev pub by_others : Outline → Finding
by_others outline spot = first_broken outline spot others

abbrev pub by_fourth : Outline → Finding
by_fourth outline spot = first_named 4 spot (carried_scratches outline spot)

abbrev Above : ℕ → List (ℕ × Rule) → Type 0
Above k [] = Unit {0}
Above k (rule ∷ more) = (k < rule.0) × Above k more

-- an offence on the spot's line, with a number over k
abbrev IsOver : ℕ → Spot → Option Offence → Type 0
IsOver k spot None = Unit {0}
IsOver k spot (Some o) = (o.line ≡ spot.here.line) × (k < o.number)

over_else : (k : ℕ) (spot : Spot) (x y : Option Offence) → IsOver k spot x → IsOver k spot y → IsOver k spot (or_else x y)
over_else k spot None y a b = b
over_else k spot (Some o) y a b = a

over_named : (k number : ℕ) (spot : Spot) (ns : List (List ℕ)) → k < number → IsOver k spot (first_named number spot ns)
over_named k number spot [] h = tt
over_named k number spot (n ∷ ns) h = (refl, h)

found_over : (outline : Outline) (spot : Spot) (k : ℕ) (some : List (ℕ × Rule)) → Above k some → IsOver k spot (first_broken outline spot some)
found_over outline spot k [] a = tt
found_over outline spot k (rule ∷ more) a =
    over_else k spot (first_named rule.0 spot (rule.1 outline spot)) (first_broken outline spot more)
    (over_named k rule.0 spot (rule.1 outline spot) a.0) (found_over outline spot k more a.1)

-- a lesser number on the same line comes first
lesser_first : (k : ℕ) (spot : Spot) (n : List ℕ) (o : Offence) → o.line ≡ spot.here.line → k < o.number → precedes (offence k spot n) o ≡ true
lesser_first k spot n o e h = both_true (nat_lt spot.here.line o.line) (spot.here.line == o.line) (nat_lt k o.number) (eq-eqb spot.here.line o.line (sym e)) (lt-ltb k o.number h)
  where
    both_true : (a b c : Bool) → b ≡ true → c ≡ true → (a || (b && c)) ≡ true
    both_true true b c e h = refl
    both_true false true c e h = h
    both_true false false c e h = absurd (cc)

not_before_named : (k j : ℕ) (spot : Spot) (n m : List ℕ) → k ≤ j → precedes (offence j spot m) (offence k spot n) ≡ false
not_before_named k j spot n m h = is_not_before spot.here.line j spot.here.line k (omega arith) (λ e. h)

front : (k : ℕ) (spot : Spot) (ns ms : List (List ℕ)) (y : Option Offence) → k ≤ 4 →
    or_else (first_named k spot ns) (earlier_of y (first_named 4 spot ms)) ≡ earlier_of (or_else (first_named k spot ns) y) (first_named 4 spot ms)
front k spot [] ms y h = refl
front k spot (n ∷ ns) [] y h = refl
front k spot (n ∷ ns) (m ∷ ms) y h = ap (λ b. Some (if b then offence 4 spot m else offence k spot n)) (sym (not_before_named k 4 spot n m h))

back : (spot : Spot) (ms : List (List ℕ)) (y : Option Offence) → IsOver 4 spot y → or_else (first_named 4 spot ms) y ≡ earlier_of y (first_named 4 spot ms)
back spot ms None h = or_none (first_named 4 spot ms)
back spot [] (Some o) h = refl
back spot (m ∷ ms) (Some o) h = ap (λ b. Some (if b then offence 4 spot m else o)) (sym (lesser_first 4 spot m o h.0 h.1))

-- the first rule that an entry breaks is the fourth or the first of the others, whichever has the lesser number
pub fourth_apart : (outline : Outline) (spot : Spot) → first_broken outline spot rules ≡ earlier_of (by_others outline spot) (by_fourth outline spot)
fourth_apart outline spot =
    let one = unknown_names outline spot in
    let two = names_bound_twice outline spot in
    let three = carried_variables outline spot in
    let four = carried_scratches outline spot in
    let rest : Option Offence = first_broken outline spot late in
    ap (λ o. or_else (first_named 1 spot one) (or_else (first_named 2 spot two) (or_else (first_named 3 spot three) o)))
    (back spot four rest (found_over outline spot 4 late (omega arith, (omega arith, (omega arith, (omega arith, (omega arith, (omega arith, tt))))))))
    ∙ ap (λ o. or_else (first_named 1 spot one) (or_else (first_named 2 spot two) o)) (front 3 spot three four rest (omega arith))
    ∙ ap (λ o. or_else (first_named 1 spot one) o) (front 2 spot two four (or_else (first_named 3 spot three) rest) (omega arith))
    ∙ front 1 spot one four (or_else (first_named 2 spot two) (or_else (first_named 3 spot three) rest)) (omega arith)

line_of : (k : ℕ) (spot : Spot) (x : Option Offence) (o : Offence) → IsOver k spot x → x ≡ Some o → o.line ≡ spot.here.line
line_of k spot None o h e = absurd (cc)
line_of k spot (Some p) o h e = let P : Option Offence → Type 0 = IsOver k spot in let q : P (Some o) = subst P e h in q.0

pub others_on_line : (outline : Outline) → OnItsLine (by_others outline)
others_on_line outline spot o e =
    line_of 0 spot (by_others outline spot) o
    (found_over outline spot 0 others (omega arith, (omega arith, (omega arith, (omega arith, (omega arith, (omega arith, (omega arith, (omega arith, (omega arith, tt)))))))))) e

pub fourth_on_line : (outline : Outline) → OnItsLine (by_fourth outline)
fourth_on_line outline spot o e = line_of 0 spot (by_fourth outline spot) o (over_named 0 4 spot (carried_scratches outline spot) (omega arith)) e

-- ---- two findings at once

earlier_line : (p q : Offence) → p.line < q.line → precedes p q ≡ true
earlier_line p q h = left_true (nat_lt p.line q.line) (p.line == q.line && nat_lt p.number q.number) (lt-ltb p.line q.line h)
  where
    left_true : (a b : Bool) → a ≡ true → (a || b) ≡ true
    left_true true b e = refl
    left_true false b e = absurd (cc)

later_line : (p q : Offence) → p.line < q.line → precedes q p ≡ false
later_line p q h = is_not_before q.line q.number p.line p.number (omega arith) (λ e. absurd (omega arith))

abbrev Beyond : ℕ → Option Offence → Type 0
Beyond n x = (o : Offence) → x ≡ Some o → n < o.line

abbrev At : ℕ → Option Offence → Type 0
At n x = (o : Offence) → x ≡ Some o → o.line ≡ n

two_at_once : (n : ℕ) (x y xs ys : Option Offence) → At n x → At n y → Beyond n xs → Beyond n ys →
    or_else (earlier_of x y) (earlier_of xs ys) ≡ earlier_of (or_else x xs) (or_else y ys)
two_at_once n None None xs ys a b c d = refl
two_at_once n None (Some p) None ys a b c d = refl
two_at_once n None (Some p) (Some q) ys a b c d =
    let e : p.line ≡ n = b p refl in
    let h : n < q.line = c q refl in
    ap (λ t. Some (if t then p else q)) (sym (earlier_line p q (omega arith)))
two_at_once n (Some o) None xs None a b c d = refl
two_at_once n (Some o) None xs (Some q) a b c d =
    let e : o.line ≡ n = a o refl in
    let h : n < q.line = d q refl in
    ap (λ t. Some (if t then q else o)) (sym (later_line o q (omega arith)))
two_at_once n (Some o) (Some p) xs ys a b c d = refl

pub met_apart : (f a b : Finding) → ((spot : Spot) → f spot ≡ earlier_of (a spot) (b spot)) → OnItsLine a → OnItsLine b →
    (n m : ℕ) (before es : List Entry) → Climbs n m es → first_met f before es ≡ earlier_of (first_met a before es) (first_met b before es)
met_apart f a b each on_a on_b n m before [] c = refl
met_apart f a b each on_a on_b n m before (e ∷ es) c =
    let spot : Spot = record { earlier = before; here = e } in
    let after : List Entry = before ++ e ∷ [] in
    ap (λ o. or_else o (first_met f after es)) (each spot)
    ∙ ap (or_else (earlier_of (a spot) (b spot))) (met_apart f a b each on_a on_b (e.line + 1) m after es c.1)
    ∙ two_at_once e.line (a spot) (b spot) (first_met a after es) (first_met b after es) (on_a spot) (on_b spot)
    (λ o g. let h : e.line + 1 ≤ o.line = met_above a on_a (e.line + 1) m after es c.1 o g in omega arith)
    (λ o g. let h : e.line + 1 ≤ o.line = met_above b on_b (e.line + 1) m after es c.1 o g in omega arith)
