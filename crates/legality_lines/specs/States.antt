-- How the state of the check goes on from line to line. Internal.
-- Source: this project's language.
use Rattle.std.specs.Prelude.{ℕ, List, [], ◌∷◌, ◌++◌, take, Option, Some, None}
use Rattle.std.specs.FinMap.{FinMap, insert, empty}
use Rattle.std.specs.Ordering.{nat_cmp}
use Rattle.std.specs.Cmp.Lexicographic.{slice_cmp}
use Rattle.loop_data.specs.declared.value.ValueKind.{ValueKind}
use Rattle.legality_rules.specs.declared.scope.Sort.{Sort}
use Rattle.legality_rules.specs.declared.scope.Site.{Site}
use Rattle.legality_rules.specs.Scopes.{known_as}
use Rattle.legality_lines.specs.declared.state.State.{State}

-- before the first line
abbrev pub start : State
start = record { bound = []; sites = []; scope = []; kinds = empty }

abbrev pub set_kind : List ℕ → Option ValueKind → FinMap (slice_cmp nat_cmp) ValueKind → FinMap (slice_cmp nat_cmp) ValueKind
set_kind n (Some k) kinds = insert kinds n k
set_kind n None kinds = kinds

-- after a name was bound, with its kind where it has one
abbrev pub with_name : Sort → List ℕ → Option ValueKind → State → State
with_name sort n k state =
    record {
      bound = state.bound ++ n ∷ [];
      sites = state.sites;
      scope = state.scope ++ known_as sort n k ∷ [];
      kinds = set_kind n k state.kinds;
    }

-- after names were bound, with these kinds one by one
abbrev pub with_each : Sort → List (List ℕ) → List ValueKind → State → State
with_each sort [] ks state = state
with_each sort (n ∷ ns) (k ∷ ks) state = with_each sort ns ks (with_name sort n (Some k) state)
with_each sort (n ∷ ns) [] state = with_each sort ns [] (with_name sort n None state)

-- after an `@reduce` line
abbrev pub with_site : Site → State → State
with_site site state = record state { sites = state.sites ++ site ∷ [] }

-- after a block, before which this many names were in scope
abbrev pub leaving : ℕ → State → State
leaving known state = record state { scope = take known state.scope }
