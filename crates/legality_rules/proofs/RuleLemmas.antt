-- A legal program breaks no rule at any entry, and what follows from that.
use Rattle.std.proofs.Common.{◌≡◌, ℕ, Bool, true, false, List, [], ◌∷◌, ◌++◌, map, refl, ◌∙◌, ap}
use Rattle.std.specs.Prelude.{not, ◌&&◌, flat_map, filter, if◌then◌else◌}
use Rattle.std.specs.List.{list_all, AllByRecursion}
use Rattle.loop_grammar.specs.declared.tree.ProgramTree.{ProgramTree}
use Rattle.legality_rules.specs.Lines.{printed}
use Rattle.legality_rules.specs.Rules.{Outline, outline_of, Spot, rules, is_reducer, keeps_kinds}
use Rattle.legality_rules.specs.Offences.{offences_against, offences_at, spots_of, IsLegal}
use Rattle.legality_rules.specs.Laws.{KeepsRules}

-- ---- empty lists

left_empty : {X : Type 0} (xs ys : List X) → xs ++ ys ≡ [] → xs ≡ []
left_empty [] ys e = refl
left_empty (x ∷ xs) ys e = absurd (cc)

right_empty : {X : Type 0} (xs ys : List X) → xs ++ ys ≡ [] → ys ≡ []
right_empty [] ys e = e
right_empty (x ∷ xs) ys e = absurd (cc)

none_in : {X Y : Type 0} (f : X → List Y) (xs : List X) → flat_map f xs ≡ [] → AllByRecursion (λ x. f x ≡ []) xs
none_in f [] e = tt
none_in f (x ∷ xs) e = (left_empty (f x) (flat_map f xs) e, none_in f xs (right_empty (f x) (flat_map f xs) e))

in_none : {X Y : Type 0} (f : X → List Y) (xs : List X) → AllByRecursion (λ x. f x ≡ []) xs → flat_map f xs ≡ []
in_none f [] e = refl
in_none f (x ∷ xs) e = ap (λ ys. ys ++ flat_map f xs) e.0 ∙ in_none f xs e.1

map_empty : {X Y : Type 0} (f : X → Y) (xs : List X) → map f xs ≡ [] → xs ≡ []
map_empty f [] e = refl
map_empty f (x ∷ xs) e = absurd (cc)

each : {X : Type 0} (P Q : X → Type 0) → ((x : X) → P x → Q x) → (xs : List X) → AllByRecursion P xs → AllByRecursion Q xs
each P Q h [] a = tt
each P Q h (x ∷ xs) a = (h x a.0, each P Q h xs a.1)

passed : (t b : Bool) (n : List ℕ) (ns : List (List ℕ)) → (if not t then n ∷ ns else ns) ≡ [] → (ns ≡ [] → b ≡ true) → (t && b) ≡ true
passed true b n ns e h = h e
passed false b n ns e h = absurd (cc)

none_kept : (test : List ℕ → Bool) (ns : List (List ℕ)) → filter (λ n. not (test n)) ns ≡ [] → list_all test ns ≡ true
none_kept test [] e = refl
none_kept test (n ∷ ns) e = passed (test n) (list_all test ns) n (filter (λ m. not (test m)) ns) e (none_kept test ns)

-- ---- rules

module _ (outline : Outline) where
  keeps : (spot : Spot) → offences_at outline spot ≡ [] → KeepsRules outline rules spot
  keeps spot e = each (λ rule. offences_against outline spot rule ≡ []) (λ rule. rule.1 outline spot ≡ []) (λ rule h. map_empty _ (rule.1 outline spot) h) rules (none_in (offences_against outline spot) rules e)

  kept : (spot : Spot) → KeepsRules outline rules spot → offences_at outline spot ≡ []
  kept spot k = in_none (offences_against outline spot) rules (each (λ rule. rule.1 outline spot ≡ []) (λ rule. offences_against outline spot rule ≡ []) (λ rule h. ap (map _) h) rules k)

pub legal_keeps : (program : ProgramTree) → IsLegal program → AllByRecursion (KeepsRules (outline_of program) rules) (spots_of program)
legal_keeps program legal =
    each (λ spot. offences_at (outline_of program) spot ≡ []) (KeepsRules (outline_of program) rules) (keeps (outline_of program)) (spots_of program)
    (none_in (offences_at (outline_of program)) (spots_of program) legal)

pub keeps_legal : (program : ProgramTree) → AllByRecursion (KeepsRules (outline_of program) rules) (spots_of program) → IsLegal program
keeps_legal program k =
    in_none (offences_at (outline_of program)) (spots_of program)
    (each (KeepsRules (outline_of program) rules) (λ spot. offences_at (outline_of program) spot ≡ []) (kept (outline_of program)) (spots_of program) k)

-- ---- kinds and prints

kinds_kept : (spot : Spot) (t : Bool) → keeps_kinds spot spot.here.says ≡ t → (if t then [] else spot.here.called ∷ []) ≡ [] → t ≡ true
kinds_kept spot true e h = refl
kinds_kept spot false e h = absurd (cc)

pub legal_kinds : (program : ProgramTree) → IsLegal program → AllByRecursion (λ spot. keeps_kinds spot spot.here.says ≡ true) (spots_of program)
legal_kinds program legal =
    each (KeepsRules (outline_of program) rules) (λ spot. keeps_kinds spot spot.here.says ≡ true)
    (λ spot k. kinds_kept spot (keeps_kinds spot spot.here.says) refl k.1.1.1.1.1.1.0) (spots_of program) (legal_keeps program legal)

pub legal_prints : (program : ProgramTree) → IsLegal program →
    AllByRecursion (λ spot. list_all (is_reducer (outline_of program)) (printed spot.here.says) ≡ true) (spots_of program)
legal_prints program legal =
    each (KeepsRules (outline_of program) rules) (λ spot. list_all (is_reducer (outline_of program)) (printed spot.here.says) ≡ true)
    (λ spot k. none_kept (is_reducer (outline_of program)) (printed spot.here.says) (right_empty _ _ k.0)) (spots_of program) (legal_keeps program legal)
