-- What the check of an `@reduce` line answers, told the reducers of the program and the state before the line. Internal.
-- Source: this project's language.
use Rattle.std.specs.Prelude.{ℕ, ◌==◌, not, ◌&&◌, List, [], ◌∷◌, filter, length, is_some, Option, None, Ok}
use Rattle.std.specs.FinMap.{get}
use Rattle.loop_data.specs.declared.value.Value.{Value}
use Rattle.loop_data.specs.declared.tower.TowerExpr.{TowerExpr}
use Rattle.tower_inputs.specs.Towers.{names_read_in_tower}
use Rattle.legality_rules.specs.declared.scope.Site.{Site}
use Rattle.legality_rules.specs.Scopes.{is_in}
use Rattle.tower_inputs.specs.Inputs.{most_sites}
use Rattle.legality_rules.specs.Rules.{allowed, inputs_fit}
use Rattle.legality_kinds.specs.Sites.{first_site, is_other, may_start, site_of}
use Rattle.legality_lines.specs.declared.state.State.{State}
use Rattle.legality_names.specs.Answers.{answer, illegal, leftmost, and_then}
use Rattle.legality_lines.specs.LineChecks.{Checked, only_if}
use Rattle.legality_names.specs.Names.{names_offence}
use Rattle.legality_lines.specs.States.{with_site}

abbrev pub reduce_checked : List (List ℕ) → ℕ → List ℕ → TowerExpr → Option Value → State → Checked
reduce_checked reducers line n tower start state =
    and_then (answer (names_offence reducers state.scope line (names_read_in_tower tower)
    (leftmost (filter (is_in state.bound) (n ∷ []))) None)) (λ _.
    let site : Site = site_of n tower (get state.kinds) in
    let first : Option Site = first_site n state.sites in
    and_then (only_if (not (is_other site first)) (illegal 6 line n)) (λ _.
    and_then (only_if (inputs_fit (allowed start (may_start first site.tower)) site.inputs) (illegal 7 line n)) (λ _.
    and_then (only_if (not (is_some start && not (may_start first site.tower))) (illegal 8 line n)) (λ _.
    and_then (only_if (not (length state.sites == most_sites)) (illegal 10 line n)) (λ _. Ok (with_site site state))))))
