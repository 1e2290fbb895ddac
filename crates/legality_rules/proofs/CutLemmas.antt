-- Offences of two stretches of entries, and of one entry.
use Rattle.std.proofs.Common.{◌≡◌, ℕ, ◌≤◌, Bool, true, false, List, [], ◌∷◌, ◌++◌, Option, Some, None, map, refl, sym, ◌∙◌, ap, arith, append_assoc, append-nil}
use Rattle.std.specs.Prelude.{nat_lt, ◌&&◌, if◌then◌else◌, not, flat_map}
use Rattle.std.specs.List.{list_all}
use Rattle.std.proofs.lemmas.Bool.{ltb-false}
use Rattle.legality_rules.specs.Scopes.{Scope}
use Rattle.legality_rules.specs.Lines.{Entry, Listing, Listed, in_turn}
use Rattle.legality_rules.specs.Rules.{Outline, Spot, Rule, rules}
use Rattle.legality_rules.specs.declared.refusal.Offence.{Offence}
use Rattle.legality_rules.specs.Offences.{offence, precedes, or_earlier, first_among, spots_after, offences_against, offences_at, offences_after}
use Rattle.legality_rules.specs.Cuts.{earlier_of, first_named, or_else, first_broken, scope_after}
use Rattle.legality_rules.proofs.FirstLemmas.{not_preceding, one_way, is_not_before, not_false, not_true, kept, found_at, first_of, left_true, right_true, all_joined}

-- ---- the first of two

precede_falsely : (g f x : Offence) (t : Bool) → precedes g x ≡ t → precedes g f ≡ true → precedes f x ≡ true → t ≡ true
precede_falsely g f x true e h k = refl
precede_falsely g f x false e h k = absurd (let not_so : precedes g f ≡ false = not_preceding f x g (one_way f x k) e in cc)

precede_through : (g f x : Offence) → precedes g f ≡ true → precedes f x ≡ true → precedes g x ≡ true
precede_through g f x h k = precede_falsely g f x (precedes g x) refl h k

three : (x f g : Offence) (s t : Bool) → precedes g f ≡ s → precedes f x ≡ t →
    or_earlier x (Some (if s then g else f)) ≡ or_earlier (if t then f else x) (Some g)
three x f g true true e h = ap (λ b. if b then g else x) (precede_through g f x e h) ∙ sym (ap (λ b. if b then g else f) e)
three x f g true false e h = refl
three x f g false true e h = ap (λ b. if b then f else x) h ∙ sym (ap (λ b. if b then g else f) e)
three x f g false false e h = ap (λ b. if b then f else x) h ∙ sym (ap (λ b. if b then g else x) (not_preceding x f g h e))

regrouped : (x : Offence) (f g : Option Offence) → or_earlier x (earlier_of f g) ≡ or_earlier (or_earlier x f) g
regrouped x None g = refl
regrouped x (Some f) None = refl
regrouped x (Some f) (Some g) = three x f g (precedes g f) (precedes f x) refl refl

pub first_joined : (os ps : List Offence) → first_among (os ++ ps) ≡ earlier_of (first_among os) (first_among ps)
first_joined [] ps = refl
first_joined (o ∷ os) ps = ap (λ f. Some (or_earlier o f)) (first_joined os ps) ∙ ap Some (regrouped o (first_among os) (first_among ps))

pub first_ends : (o : Offence) (later : List Offence) → list_all (λ p. not (precedes p o)) later ≡ true → earlier_of (Some o) (first_among later) ≡ Some o
first_ends o later h = ap Some (kept o later (first_among later) h (first_of later))

-- ---- stretches of entries

spots_joined : (before xs ys : List Entry) → spots_after before (xs ++ ys) ≡ spots_after before xs ++ spots_after (before ++ xs) ys
spots_joined before [] ys = ap (λ b. spots_after b ys) (sym (append-nil before))
spots_joined before (x ∷ xs) ys =
    ap (λ s. record { earlier = before; here = x } ∷ s) (spots_joined (before ++ x ∷ []) xs ys
    ∙ ap (λ b. spots_after (before ++ x ∷ []) xs ++ spots_after b ys) (append_assoc before (x ∷ []) xs))

flat_joined : {X Y : Type 0} (f : X → List Y) (xs ys : List X) → flat_map f (xs ++ ys) ≡ flat_map f xs ++ flat_map f ys
flat_joined f [] ys = refl
flat_joined f (x ∷ xs) ys = ap (λ s. f x ++ s) (flat_joined f xs ys) ∙ sym (append_assoc (f x) (flat_map f xs) (flat_map f ys))

pub first_of_two : (outline : Outline) (before xs ys : List Entry) →
    first_among (offences_after outline before (xs ++ ys))
    ≡ earlier_of (first_among (offences_after outline before xs)) (first_among (offences_after outline (before ++ xs) ys))
first_of_two outline before xs ys =
    ap (λ s. first_among (flat_map (offences_at outline) s)) (spots_joined before xs ys)
    ∙ ap first_among (flat_joined (offences_at outline) (spots_after before xs) (spots_after (before ++ xs) ys))
    ∙ first_joined (offences_after outline before xs) (offences_after outline (before ++ xs) ys)

pub entries_of_two : (xs ys : List Listing) (scope : Scope) → in_turn (xs ++ ys) scope ≡ in_turn xs scope ++ in_turn ys (scope_after xs scope)
entries_of_two [] ys scope = refl
entries_of_two (x ∷ xs) ys scope =
    let here : Listed = x scope in
    ap (λ s. here.entries ++ s) (entries_of_two xs ys here.scope) ∙ sym (append_assoc here.entries (in_turn xs here.scope) (in_turn ys (scope_after xs here.scope)))

-- ---- one entry

module _ (outline : Outline) (spot : Spot) where
  -- offences at one entry against rules of this number or a greater one
  abbrev not_less : ℕ → List (ℕ × Rule) → Bool
  not_less number some = list_all (λ rule. not (nat_lt rule.0 number)) some

  same_names : (number : ℕ) (n : List ℕ) (ns : List (List ℕ)) (k : ℕ) → number ≤ k → list_all (λ p. not (precedes p (offence number spot n))) (map (offence k spot) ns) ≡ true
  same_names number n [] k h = refl
  same_names number n (m ∷ ns) k h =
      ap (λ b. b && list_all (λ p. not (precedes p (offence number spot n))) (map (offence k spot) ns))
      (not_false (precedes (offence k spot m) (offence number spot n)) (is_not_before spot.here.line k spot.here.line number (omega arith) (λ e. h)))
      ∙ same_names number n ns k h

  no_others : (number : ℕ) (n : List ℕ) (some : List (ℕ × Rule)) → not_less number some ≡ true →
      list_all (λ p. not (precedes p (offence number spot n))) (flat_map (offences_against outline spot) some) ≡ true
  no_others number n [] e = refl
  no_others number n (rule ∷ more) e =
      all_joined (λ p. not (precedes p (offence number spot n))) (offences_against outline spot rule) (flat_map (offences_against outline spot) more)
      (same_names number n (rule.1 outline spot) rule.0 (ltb-false rule.0 number (not_true (nat_lt rule.0 number) (left_true (not (nat_lt rule.0 number)) (not_less number more) e))))
      (no_others number n more (right_true (not (nat_lt rule.0 number)) (not_less number more) e))

  -- the numbers of the rules don't fall
  abbrev is_rising : List (ℕ × Rule) → Bool
  is_rising [] = true
  is_rising (rule ∷ more) = not_less rule.0 more && is_rising more

  with_names : (number : ℕ) (names : List (List ℕ)) (more : List (ℕ × Rule)) → not_less number more ≡ true →
      first_among (flat_map (offences_against outline spot) more) ≡ first_broken outline spot more →
      first_among (map (offence number spot) names ++ flat_map (offences_against outline spot) more) ≡ or_else (first_named number spot names) (first_broken outline spot more)
  with_names number [] more h e = e
  with_names number (n ∷ names) more h e =
      found_at (offence number spot n) (map (offence number spot) names ++ flat_map (offences_against outline spot) more) [] refl
      (all_joined (λ p. not (precedes p (offence number spot n))) (map (offence number spot) names) (flat_map (offences_against outline spot) more)
      (same_names number n names number (omega arith)) (no_others number n more h))

  first_of_rules : (some : List (ℕ × Rule)) → is_rising some ≡ true → first_among (flat_map (offences_against outline spot) some) ≡ first_broken outline spot some
  first_of_rules [] e = refl
  first_of_rules (rule ∷ more) e =
      with_names rule.0 (rule.1 outline spot) more (left_true (not_less rule.0 more) (is_rising more) e) (first_of_rules more (right_true (not_less rule.0 more) (is_rising more) e))

pub first_at_entry : (outline : Outline) (spot : Spot) → first_among (offences_at outline spot) ≡ first_broken outline spot rules
first_at_entry outline spot = first_of_rules outline spot rules refl
