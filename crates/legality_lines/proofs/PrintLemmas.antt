-- The check of `print` lines finds the first that prints no reducer.
use Rattle.std.proofs.Common.{◌≡◌, ℕ, Bool, true, false, List, [], ◌∷◌, ◌++◌, Option, None, Result, refl, map}
use Rattle.std.specs.Prelude.{codes, not, if◌then◌else◌}
use Rattle.loop_data.specs.declared.head.PrintLine.{PrintLine}
use Rattle.legality_rules.specs.declared.refusal.Offence.{Offence}
use Rattle.legality_rules.specs.declared.refusal.LegalRefusal.{LegalRefusal}
use Rattle.legality_rules.specs.Scopes.{Scope, is_in}
use Rattle.legality_rules.specs.Lines.{Entry, in_turn, print_line, print_listing}
use Rattle.legality_rules.specs.Rules.{Outline, Spot, reduced_by}
use Rattle.legality_rules.specs.Cuts.{or_else, first_named}
use Rattle.legality_names.specs.Answers.{answer, illegal, and_then}
use Rattle.legality_lines.specs.LineChecks.{only_if}
use Rattle.legality_lines.specs.Walks.{prints_checked}
use Rattle.legality_names.proofs.FirstMet.{by_others, first_met}

one_print : (spot : Spot) (n : List ℕ) (b : Bool) (rest : Option Offence) (r : Result (Unit {0}) LegalRefusal) → r ≡ answer rest →
    and_then (only_if b (illegal 1 spot.here.line n)) (λ _. r) ≡ answer (or_else (or_else (first_named 1 spot (if not b then n ∷ [] else [])) None) rest)
one_print spot n true rest r e = e
one_print spot n false rest r e = refl

pub prints_go : (outline : Outline) (ps : List PrintLine) (before : List Entry) (scope : Scope) →
    prints_checked (reduced_by outline.entries) ps ≡ answer (first_met (by_others outline) before (in_turn (map print_listing ps) scope))
prints_go outline [] before scope = refl
prints_go outline (p ∷ ps) before scope =
    let entry : Entry = record { line = p.line; called = codes "print"; scope = scope; says = print_line p.name } in
    let spot : Spot = record { earlier = before; here = entry } in
    one_print spot p.name (is_in (reduced_by outline.entries) p.name) (first_met (by_others outline) (before ++ entry ∷ []) (in_turn (map print_listing ps) (scope ++ [])))
    (prints_checked (reduced_by outline.entries) ps) (prints_go outline ps (before ++ entry ∷ []) (scope ++ []))
