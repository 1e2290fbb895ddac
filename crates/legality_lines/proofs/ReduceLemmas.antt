-- The check of an `@reduce` line finds the first rule that its entry breaks, and keeps the state.
use Rattle.std.proofs.Common.{◌≡◌, ℕ, Bool, true, false, List, [], ◌∷◌, ◌++◌, Option, Some, None, Ok, refl, sym, ◌∙◌, ap, subst, append-nil, map, length}
use Rattle.std.specs.Prelude.{◌==◌, not, ◌&&◌, if◌then◌else◌, filter, is_some}
use Rattle.std.specs.FinMap.{get}
use Rattle.loop_data.specs.declared.value.Value.{Value}
use Rattle.loop_data.specs.declared.tower.Kind.{Kind}
use Rattle.loop_data.specs.declared.tower.TowerExpr.{TowerExpr}
use Rattle.tower_inputs.specs.Towers.{kind_of_tower, names_read_in_tower}
use Rattle.tower_inputs.proofs.InputNames.{kinds_settled}
use Rattle.legality_rules.specs.declared.refusal.Offence.{Offence}
use Rattle.legality_rules.specs.declared.scope.Site.{Site}
use Rattle.legality_rules.specs.Scopes.{Scope, is_in, kinds_in}
use Rattle.legality_rules.specs.Towers.{Inputs, input_kinds, takes_start, where_given}
use Rattle.legality_rules.specs.Lines.{Entry, reduce_line}
use Rattle.tower_inputs.specs.Inputs.{most_sites}
use Rattle.legality_rules.specs.Rules.{Outline, Spot, allowed, bound_by, differs_from_first, inputs_fit, is_none, may_start as may_start_at, reduced_by, sites_in, sites_of, starts_refused}
use Rattle.legality_rules.specs.Offences.{offence}
use Rattle.legality_rules.specs.Cuts.{or_else, first_named}
use Rattle.legality_lines.specs.declared.state.State.{State}
use Rattle.legality_names.specs.Answers.{illegal, leftmost, and_then}
use Rattle.legality_lines.specs.LineChecks.{Checked, only_if}
use Rattle.legality_names.specs.Names.{names_offence, unknown}
use Rattle.legality_kinds.specs.Sites.{first_of, first_site, is_other, may_start}
use Rattle.legality_lines.specs.ReduceChecks.{reduce_checked}
use Rattle.legality_lines.specs.States.{with_site}
use Rattle.legality_names.proofs.FirstMet.{by_others, first_met}
use Rattle.legality_lines.proofs.Knowing.{KindMap, Knows, made, kept_as, bound_added, sites_added}
use Rattle.legality_lines.proofs.Going.{Goes, goes_line, goes_if, goes_is, by_names, by_kinds, one_met, names_are, line_known}

-- ---- the first line of a name

differs_is : (site : Site) (sites : List Site) → differs_from_first site sites ≡ is_other site (first_of sites)
differs_is site [] = refl
differs_is site (first ∷ more) = refl

none_is : (sites : List Site) (kind : Kind) → (is_none sites && takes_start kind) ≡ may_start (first_of sites) kind
none_is [] kind = refl
none_is (first ∷ more) kind = refl

-- ---- each rule as a test

six_is : (spot : Spot) (site : Site) (d : Bool) → first_named 6 spot (map (λ (s : Site). s.name) (if d then site ∷ [] else [])) ≡ (if not d then None else Some (offence 6 spot site.name))
six_is spot site true = refl
six_is spot site false = refl

seven_is : (spot : Spot) (n : List ℕ) (t : Bool) → first_named 7 spot (if t then [] else n ∷ []) ≡ (if t then None else Some (offence 7 spot n))
seven_is spot n true = refl
seven_is spot n false = refl

eight_is : (spot : Spot) (n : List ℕ) (tower : TowerExpr) (start : Option Value) (may : Bool) → may_start_at spot n tower ≡ may →
    first_named 8 spot (starts_refused spot (reduce_line n tower start)) ≡ (if not (is_some start && not may) then None else Some (offence 8 spot n))
eight_is spot n tower None may e = refl
eight_is spot n tower (Some v) may e = ap (λ b. first_named 8 spot (if b then [] else n ∷ [])) e ∙ at may
  where
    at : (b : Bool) → first_named 8 spot (if b then [] else n ∷ []) ≡ (if not (not b) then None else Some (offence 8 spot n))
    at true = refl
    at false = refl

ten_is : (spot : Spot) (n : List ℕ) (b : Bool) → first_named 10 spot (if b then n ∷ [] else []) ≡ (if not b then None else Some (offence 10 spot n))
ten_is spot n true = refl
ten_is spot n false = refl

module _ (outline : Outline) (before : List Entry) (scope : Scope) (kinds : KindMap) (knows : Knows kinds (bound_by before) scope) (line : ℕ) (n : List ℕ) (tower : TowerExpr) (start : Option Value) where
  abbrev state : State
  state = made (bound_by before) (sites_in before) scope kinds

  abbrev entry : Entry
  entry = record { line = line; called = n; scope = scope; says = reduce_line n tower start }

  abbrev spot : Spot
  spot = record { earlier = before; here = entry }

  abbrev site_with : Inputs → Site
  site_with inputs = record { name = n; tower = kind_of_tower tower; inputs = inputs }

  abbrev first : Option Site
  first = first_site n (sites_in before)

  abbrev may : Bool
  may = may_start first (kind_of_tower tower)

  -- what is left of the check, told the kinds of the inputs
  abbrev rest : Inputs → Checked
  rest inputs =
      and_then (only_if (not (is_other (site_with inputs) first)) (illegal 6 line n)) (λ _.
      and_then (only_if (inputs_fit (allowed start may) inputs) (illegal 7 line n)) (λ _.
      and_then (only_if (not (is_some start && not may)) (illegal 8 line n)) (λ _.
      and_then (only_if (not (length (sites_in before) == most_sites)) (illegal 10 line n)) (λ _. Ok (with_site (site_with inputs) state)))))

  abbrev tests : Inputs → Option Offence
  tests inputs =
      or_else (if not (is_other (site_with inputs) first) then None else Some (offence 6 spot n))
      (or_else (if inputs_fit (allowed start may) inputs then None else Some (offence 7 spot n))
      (or_else (if not (is_some start && not may) then None else Some (offence 8 spot n))
      (or_else (if not (length (sites_in before) == most_sites) then None else Some (offence 10 spot n)) None)))

  kinds_are : by_kinds outline spot ≡ tests (input_kinds tower (kinds_in scope))
  kinds_are =
      let inputs = input_kinds tower (kinds_in scope) in
      let m : may_start_at spot n tower ≡ may = none_is (sites_of n before) (kind_of_tower tower) in
      let eight = first_named 8 spot (starts_refused spot (reduce_line n tower start)) in
      let ten = first_named 10 spot (filter (λ _. length (sites_in before) == most_sites) (n ∷ [])) in
      let seven : Bool → Option Offence = λ t. first_named 7 spot (if t then [] else n ∷ []) in
      ap (λ b. or_else (first_named 6 spot (map (λ (s : Site). s.name) (if b then site_with inputs ∷ [] else []))) (or_else (seven (inputs_fit (allowed start (may_start_at spot n tower)) inputs)) (or_else eight (or_else ten None))))
      (differs_is (site_with inputs) (sites_of n before))
      ∙ ap (λ b. or_else (first_named 6 spot (map (λ (s : Site). s.name) (if is_other (site_with inputs) first then site_with inputs ∷ [] else []))) (or_else (seven (inputs_fit (allowed start b) inputs)) (or_else eight (or_else ten None)))) m
      ∙ ap (λ o. or_else o (or_else (seven (inputs_fit (allowed start may) inputs)) (or_else eight (or_else ten None)))) (six_is spot (site_with inputs) (is_other (site_with inputs) first))
      ∙ ap (λ o. or_else (if not (is_other (site_with inputs) first) then None else Some (offence 6 spot n)) (or_else o (or_else eight (or_else ten None)))) (seven_is spot n (inputs_fit (allowed start may) inputs))
      ∙ ap (λ o. or_else (if not (is_other (site_with inputs) first) then None else Some (offence 6 spot n)) (or_else (if inputs_fit (allowed start may) inputs then None else Some (offence 7 spot n)) (or_else o (or_else ten None))))
      (eight_is spot n tower start may m)
      ∙ ap (λ o. or_else (if not (is_other (site_with inputs) first) then None else Some (offence 6 spot n)) (or_else (if inputs_fit (allowed start may) inputs then None else Some (offence 7 spot n)) (or_else (if not (is_some start && not may) then None else Some (offence 8 spot n)) (or_else o None))))
      (ten_is spot n (length (sites_in before) == most_sites))

  tests_go : Goes (tests (input_kinds tower (kinds_in scope))) (rest (input_kinds tower (kinds_in scope))) (before ++ entry ∷ []) (scope ++ [])
  tests_go =
      let inputs = input_kinds tower (kinds_in scope) in
      let E = before ++ entry ∷ [] in
      let S = scope ++ [] in
      let last : Checked = Ok (with_site (site_with inputs) state) in
      let ten : Checked = and_then (only_if (not (length (sites_in before) == most_sites)) (illegal 10 line n)) (λ _. last) in
      let eight : Checked = and_then (only_if (not (is_some start && not may)) (illegal 8 line n)) (λ _. ten) in
      let seven : Checked = and_then (only_if (inputs_fit (allowed start may) inputs) (illegal 7 line n)) (λ _. eight) in
      let y10 : Option Offence = or_else (if not (length (sites_in before) == most_sites) then None else Some (offence 10 spot n)) None in
      let y8 : Option Offence = or_else (if not (is_some start && not may) then None else Some (offence 8 spot n)) y10 in
      let y7 : Option Offence = or_else (if inputs_fit (allowed start may) inputs then None else Some (offence 7 spot n)) y8 in
      let P : Scope → Type 0 = λ z. Goes None last E z in
      let done : Goes None last E S = subst P (sym (append-nil scope)) (
        with_site (site_with inputs) state,
        refl,
        kept_as (with_site (site_with inputs) state) (bound_by before) (sites_in before ++ site_with inputs ∷ []) scope kinds E
            (sym (bound_added before entry ∙ append-nil (bound_by before))) (sym (sites_added before entry)) refl knows,
      ) in
      goes_if (not (is_other (site_with inputs) first)) (offence 6 spot n) y7 seven E S (λ _.
      goes_if (inputs_fit (allowed start may) inputs) (offence 7 spot n) y8 eight E S (λ _.
      goes_if (not (is_some start && not may)) (offence 8 spot n) y10 ten E S (λ _.
      goes_if (not (length (sites_in before) == most_sites)) (offence 10 spot n) None last E S (λ _. done))))

  pub reduce_goes : Goes (first_met (by_others outline) before (entry ∷ [])) (reduce_checked (reduced_by outline.entries) line n tower start state) (before ++ entry ∷ []) (scope ++ [])
  reduce_goes =
      let reducers = reduced_by outline.entries in
      let E = before ++ entry ∷ [] in
      let S = scope ++ [] in
      let reads = names_read_in_tower tower in
      let twice = filter (is_in (bound_by before)) (n ∷ []) in
      goes_is (first_met (by_others outline) before (entry ∷ [])) (or_else (by_names outline spot) (by_kinds outline spot))
      (reduce_checked reducers line n tower start state) (reduce_checked reducers line n tower start state) E E S S
      (one_met outline before entry) refl refl refl
      (goes_line (by_names outline spot) (names_offence reducers scope line reads (leftmost twice) None) (by_kinds outline spot) (rest (input_kinds tower (get kinds))) E S
      (names_are outline spot (unknown reducers scope reads) twice [] (filter (is_in reducers) reads) (sym (append-nil (unknown reducers scope reads))) (sym (append-nil twice)) refl refl)
      (λ none.
      let same : input_kinds tower (get kinds) ≡ input_kinds tower (kinds_in scope) =
      ap where_given (kinds_settled tower (get kinds) (kinds_in scope) (line_known outline spot kinds (bound_by before) knows none)) in
      let P : Inputs → Type 0 = λ z. Goes (by_kinds outline spot) (rest z) E S in
      let Q : Option Offence → Type 0 = λ z. Goes z (rest (input_kinds tower (kinds_in scope))) E S in
      subst P (sym same) (subst Q (sym kinds_are) tests_go)))
