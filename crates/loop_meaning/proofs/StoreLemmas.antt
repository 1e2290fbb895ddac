-- Keeping the values of names, in two lists one after the other.
use Rattle.std.proofs.Common.{◌≡◌, ℕ, List, [], ◌∷◌, ◌++◌, refl, ap, ◌∙◌}
use Rattle.std.specs.FinMap.{get}
use Rattle.loop_values.specs.Bindings.{Bindings}
use Rattle.loop_meaning.specs.Laws.{StoreStays}
use Rattle.loop_meaning.specs.Steps.{first_run, inner_runs, names_for}
use Rattle.loop_meaning.specs.Stores.{keeping, names_of, stored_names, with_found}

pub keeping_append : (ms ns : List (List ℕ)) (before after : Bindings) → keeping (ms ++ ns) before after ≡ keeping ns (keeping ms before after) after
keeping_append [] ns before after = refl
keeping_append (m ∷ ms) ns before after = keeping_append ms ns (with_found before m (get after m)) after

-- without outer variables and scratches nothing lives on
pub store_stays : StoreStays
store_stays program store item place no_vars no_scratch =
    let none : stored_names program ≡ [] = ap (λ vars. names_of vars ++ names_of program.scratch) no_vars ∙ ap names_of no_scratch in
    let run = inner_runs program program.head.inner 1 (first_run (names_for program store item place)) in
    ap (λ names. keeping names store run.names) none
