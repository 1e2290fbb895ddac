-- The first offence of several entries on one line: the least rule that one of them breaks, at the leftmost name.
use Rattle.std.proofs.Common.{◌≡◌, ℕ, ◌<◌, ◌≤◌, ◌+◌, zero, suc, Bool, true, false, List, [], ◌∷◌, ◌++◌, Option, Some, None, refl, sym, ◌∙◌, ap, arith}
use Rattle.std.specs.Prelude.{nat_lt, ◌==◌, ◌&&◌, ◌||◌, if◌then◌else◌, flat_map}
use Rattle.std.specs.List.{AllByRecursion}
use Rattle.std.proofs.lemmas.Bool.{eq-eqb, lt-ltb}
use Rattle.legality_rules.specs.declared.refusal.Offence.{Offence}
use Rattle.legality_rules.specs.Rules.{Outline, Spot, Rule, rules}
use Rattle.legality_rules.specs.Offences.{or_earlier, first_among, offences_at}
use Rattle.legality_rules.specs.Cuts.{earlier_of, or_else, first_named, first_broken}
use Rattle.legality_rules.proofs.FirstLemmas.{is_not_before}
use Rattle.legality_rules.proofs.CutLemmas.{first_at_entry, first_joined}
use Rattle.legality_names.specs.Answers.{leftmost, named}

-- the first of the rules that one of the entries breaks, with the leftmost name
abbrev pub line_broken : Outline → ℕ → List Spot → List (ℕ × Rule) → Option Offence
line_broken outline line spots [] = None
line_broken outline line spots (rule ∷ more) = or_else (named rule.0 line (leftmost (flat_map (rule.1 outline) spots))) (line_broken outline line spots more)

abbrev pub Ascends : ℕ → List (ℕ × Rule) → Type 0
Ascends k [] = Unit {0}
Ascends k (rule ∷ more) = (k < rule.0) × Ascends rule.0 more

-- on the line, with a number over k
abbrev pub IsAfter : ℕ → ℕ → Option Offence → Type 0
IsAfter k line None = Unit {0}
IsAfter k line (Some o) = (o.line ≡ line) × (k < o.number)

after_else : (k line : ℕ) (x y : Option Offence) → IsAfter k line x → IsAfter k line y → IsAfter k line (or_else x y)
after_else k line None y a b = b
after_else k line (Some o) y a b = a

after_less : (j k line : ℕ) (x : Option Offence) → j ≤ k → IsAfter k line x → IsAfter j line x
after_less j k line None h a = tt
after_less j k line (Some o) h a = let g : k < o.number = a.1 in (a.0, omega arith)

after_first : (k number line : ℕ) (spot : Spot) (ns : List (List ℕ)) → spot.here.line ≡ line → k < number → IsAfter k line (first_named number spot ns)
after_first k number line spot [] e h = tt
after_first k number line spot (n ∷ ns) e h = (e, h)

after_named : (k number line : ℕ) (ns : List (List ℕ)) → k < number → IsAfter k line (named number line (leftmost ns))
after_named k number line [] h = tt
after_named k number line (n ∷ ns) h = (refl, h)

broken_after : (outline : Outline) (spot : Spot) (k line : ℕ) (some : List (ℕ × Rule)) → spot.here.line ≡ line → Ascends k some → IsAfter k line (first_broken outline spot some)
broken_after outline spot k line [] e a = tt
broken_after outline spot k line (rule ∷ more) e a =
    let h : k < rule.0 = a.0 in
    after_else k line (first_named rule.0 spot (rule.1 outline spot)) (first_broken outline spot more) (after_first k rule.0 line spot (rule.1 outline spot) e h)
    (after_less k rule.0 line (first_broken outline spot more) (omega arith) (broken_after outline spot rule.0 line more e a.1))

pub line_after : (outline : Outline) (spots : List Spot) (k line : ℕ) (some : List (ℕ × Rule)) → Ascends k some → IsAfter k line (line_broken outline line spots some)
line_after outline spots k line [] a = tt
line_after outline spots k line (rule ∷ more) a =
    let h : k < rule.0 = a.0 in
    after_else k line (named rule.0 line (leftmost (flat_map (rule.1 outline) spots))) (line_broken outline line spots more) (after_named k rule.0 line (flat_map (rule.1 outline) spots) h)
    (after_less k rule.0 line (line_broken outline line spots more) (omega arith) (line_after outline spots rule.0 line more a.1))

abbrev offence_on : ℕ → ℕ → List ℕ → Offence
offence_on number line n = record { number = number; line = line; name = n }

-- an offence against a lesser rule comes first, and on a tie the left one
stays_first : (number line : ℕ) (n : List ℕ) (y : Option Offence) → (k : ℕ) → number ≤ k + 1 → IsAfter k line y → or_earlier (offence_on number line n) y ≡ offence_on number line n
stays_first number line n None k h a = refl
stays_first number line n (Some p) k h a =
    let e : p.line ≡ line = a.0 in
    let g : k < p.number = a.1 in
    ap (λ b. if b then p else offence_on number line n) (is_not_before p.line p.number line number (omega arith) (λ _. omega arith))

both_true : (a b c : Bool) → b ≡ true → c ≡ true → (a || (b && c)) ≡ true
both_true true b c e h = refl
both_true false true c e h = h
both_true false false c e h = absurd (cc)

comes_first : (number line : ℕ) (m : List ℕ) (x : Option Offence) → IsAfter number line x → earlier_of x (Some (offence_on number line m)) ≡ Some (offence_on number line m)
comes_first number line m None a = refl
comes_first number line m (Some o) a =
    ap (λ b. Some (if b then offence_on number line m else o)) (both_true (nat_lt line o.line) (line == o.line) (nat_lt number o.number) (eq-eqb line o.line (sym a.0)) (lt-ltb number o.number a.1))

first_is : (number line : ℕ) (spot : Spot) (ns : List (List ℕ)) → spot.here.line ≡ line → first_named number spot ns ≡ named number line (leftmost ns)
first_is number line spot [] e = refl
first_is number line spot (n ∷ ns) e = ap (λ l. Some (offence_on number l n)) e

module _ (outline : Outline) (line : ℕ) (spot : Spot) (spots : List Spot) (on : spot.here.line ≡ line) where
  merge_names : (number k : ℕ) (ns ms : List (List ℕ)) (x y z : Option Offence) → k < number → number ≤ k + 1 → IsAfter number line x → IsAfter number line y → earlier_of x y ≡ z →
      earlier_of (or_else (named number line (leftmost ns)) x) (or_else (named number line (leftmost ms)) y) ≡ or_else (named number line (leftmost (ns ++ ms))) z
  merge_names number k (n ∷ ns) ms x y z h g a b e =
      ap Some (stays_first number line n (or_else (named number line (leftmost ms)) y) k g
      (after_else k line (named number line (leftmost ms)) y (after_named k number line ms h) (after_less k number line y (omega arith) b)))
  merge_names number k [] (m ∷ ms) x y z h g a b e = comes_first number line m x a
  merge_names number k [] [] x y z h g a b e = e

  merged : (k : ℕ) (some : List (ℕ × Rule)) → Ascends k some → earlier_of (first_broken outline spot some) (line_broken outline line spots some) ≡ line_broken outline line (spot ∷ spots) some
  merged k [] a = refl
  merged k (rule ∷ more) a =
      let h : k < rule.0 = a.0 in
      let x = first_broken outline spot more in
      let y = line_broken outline line spots more in
      ap (λ o. earlier_of (or_else o x) (or_else (named rule.0 line (leftmost (flat_map (rule.1 outline) spots))) y)) (first_is rule.0 line spot (rule.1 outline spot) on)
      ∙ at rule.0 h (rule.1 outline spot) (flat_map (rule.1 outline) spots) x y (line_broken outline line (spot ∷ spots) more)
      (broken_after outline spot rule.0 line more on a.1) (line_after outline spots rule.0 line more a.1) (merged rule.0 more a.1)
    where
      at : (number : ℕ) → k < number → (ns ms : List (List ℕ)) (x y z : Option Offence) → IsAfter number line x → IsAfter number line y → earlier_of x y ≡ z →
          earlier_of (or_else (named number line (leftmost ns)) x) (or_else (named number line (leftmost ms)) y) ≡ or_else (named number line (leftmost (ns ++ ms))) z
      at zero h ns ms x y z a b e = absurd (omega arith)
      at (suc j) h ns ms x y z a b e = merge_names (suc j) j ns ms x y z (omega arith) (omega arith) a b e

nothing_broken : (outline : Outline) (line : ℕ) (some : List (ℕ × Rule)) → line_broken outline line [] some ≡ None
nothing_broken outline line [] = refl
nothing_broken outline line (rule ∷ more) = nothing_broken outline line more

pub line_first : (outline : Outline) (line : ℕ) (spots : List Spot) → AllByRecursion (λ spot. spot.here.line ≡ line) spots → first_among (flat_map (offences_at outline) spots) ≡ line_broken outline line spots rules
line_first outline line [] a = refl
line_first outline line (spot ∷ spots) a =
    first_joined (offences_at outline spot) (flat_map (offences_at outline) spots)
    ∙ ap (λ o. earlier_of o (first_among (flat_map (offences_at outline) spots))) (first_at_entry outline spot)
    ∙ ap (earlier_of (first_broken outline spot rules)) (line_first outline line spots a.1)
    ∙ merged outline line spot spots a.0 0 rules (omega arith, (omega arith, (omega arith, (omega arith, (omega arith, (omega arith, (omega arith, (omega arith, (omega arith, (omega arith, tt))))))))))
