-- Whole runs: from the store in which a loop begins, each step leaves a store whose names fit, and each pair that counts passes the
-- test.
use Rattle.std.proofs.Common.{◌≡◌, ℕ, zero, suc, ◌+◌, ◌-◌, ◌≤◌, Bool, true, false, List, [], ◌∷◌, ◌++◌, length, take, drop, length-take, length-drop, Option, Some, None, refl, ap, sym, ◌∙◌, subst, arith, pos}
use Rattle.std.specs.Prelude.{not, int_lt}
use Rattle.std.specs.List.{list_all, AllByRecursion}
use Rattle.std.specs.FinMap.{empty, get, insert}
use Rattle.std.proofs.lemmas.Bool.{and_from, and_parts}
use Rattle.std.proofs.lemmas.Int.{ints}
use Rattle.number_ranges.specs.Ranges.{most_items}
use Rattle.loop_data.specs.declared.value.Value.{Value}
use Rattle.loop_data.specs.declared.value.Value.TheVariants.{Int}
use Rattle.loop_data.specs.declared.value.Value.TheOpen.{Value-F as v}
use Rattle.loop_data.specs.declared.value.ValueKind.{ValueKind}
use Rattle.loop_grammar.specs.SkippedFaults.{skips_faults}
use Rattle.loop_grammar.specs.declared.tree.ProgramTree.{ProgramTree}
use Rattle.loop_values.specs.Bindings.{Bindings, place_name}
use Rattle.loop_values.specs.Fits.{fits, is_place_at}
use Rattle.loop_values.specs.Kinds.{Kinds}
use Rattle.loop_values.proofs.BindingLaws.{get-bound}
use Rattle.tower_inputs.specs.Laws.{HasPlace}
use Rattle.column_input.specs.Table.{Contents}
use Rattle.legality_rules.specs.declared.scope.Sort.TheVariants.{LoopVariable, Scratch, Variable}
use Rattle.legality_rules.specs.Lines.{entries_of}
use Rattle.legality_rules.specs.Rules.{items_fit as pattern_takes}
use Rattle.legality_rules.specs.Scopes.{Scope, fits_pattern, item_kind, kinds_in, pattern_known}
use Rattle.legality_rules.proofs.FirstLemmas.{all_joined, not_false}
use Rattle.loop_meaning.specs.declared.steps.BodyEnd.{BodyEnd}
use Rattle.loop_meaning.specs.declared.steps.BodyEnd.TheVariants as end
use Rattle.loop_meaning.specs.declared.runs.Run.{Run}
use Rattle.loop_meaning.specs.Items.{items_of, sources_of}
use Rattle.loop_meaning.specs.Runs.{loop_run, with_step}
use Rattle.loop_meaning.specs.Steps.{Step, body_step, first_run, inner_runs, names_for}
use Rattle.loop_meaning.specs.Stores.{start_store, stored_names, variables}
use Rattle.fitting_inputs.specs.Fitting.{EntryFits, Test}
use Rattle.fitting_inputs.proofs.FreshNames.{AreTold, IsTold, all_back, all_both, all_front, fresh_told}
use Rattle.fitting_inputs.proofs.HeadScopes.{PartsFit, after_heads, after_pattern, before_body, of_inner, of_pattern, of_scratches, of_vars, parts_fit}
use Rattle.fitting_inputs.proofs.ItemLemmas.{items_fit}
use Rattle.fitting_inputs.proofs.PatternLemmas.{BoundWith, pattern_bound}
use Rattle.fitting_inputs.proofs.StepLemmas.{StandsFit, heads_fit}
use Rattle.fitting_inputs.proofs.StoreLemmas.{AreBound, IsBound, keeping_bound, literals_bound, place_bound}

-- ---- places

-- a place of an item
place_fits : (n : ℕ) → 1 ≤ n → n ≤ most_items → is_place_at (v.Int (pos n)) ≡ true
place_fits n least most =
    let above : int_lt (pos 0) (pos n) ≡ true = grind (arith, ints) in
    let within : int_lt (pos most_items) (pos n) ≡ false = grind (arith, ints) in
    and_from (int_lt (pos 0) (pos n)) (not (int_lt (pos most_items) (pos n))) above (not_false (int_lt (pos most_items) (pos n)) within)

-- the pairs of a step and of what follows it
step_first : (test : Test) (skips : Bool) (e : BodyEnd) (step : Step) (place : ℕ) (rest : Run) → list_all test step.emitted ≡ true → list_all test rest.emitted ≡ true →
    list_all test (with_step skips e step place rest).emitted ≡ true
step_first test skips end.Next step place rest h k = all_joined test step.emitted rest.emitted h k
step_first test skips (end.Break line) step place rest h k = h
step_first test true (end.Fault line kind) step place rest h k = k
step_first test false (end.Fault line kind) step place rest h k = h

-- what a step does from a store whose names fit
pub record StepFits (test : Test) (stored : Scope) (step : Step) : Type 0 where
  pub emitted : list_all test step.emitted ≡ true
  pub store : AreBound step.store stored

module _ (test : Test) (program : ProgramTree) (parts : PartsFit test program) where
  abbrev scope : Scope
  scope = before_body program

  abbrev kinds : Kinds
  kinds = kinds_in scope

  -- the names of the store
  abbrev stored : Scope
  stored = of_vars program ++ of_scratches program

  -- ---- what is told of the parts of the scope before the body

  pub all_told : AreTold kinds scope
  all_told = fresh_told [] scope parts.fresh

  told_to_inner : AreTold kinds (after_heads program)
  told_to_inner = all_front (IsTold kinds) (after_heads program) (of_scratches program) all_told

  told_scratches : AreTold kinds (of_scratches program)
  told_scratches = all_back (IsTold kinds) (after_heads program) (of_scratches program) all_told

  told_to_pattern : AreTold kinds (after_pattern program)
  told_to_pattern = all_front (IsTold kinds) (after_pattern program) (of_inner program) told_to_inner

  pub told_inner : AreTold kinds (of_inner program)
  told_inner = all_back (IsTold kinds) (after_pattern program) (of_inner program) told_to_inner

  told_vars : AreTold kinds (of_vars program)
  told_vars = all_front (IsTold kinds) (of_vars program) (of_pattern program) told_to_pattern

  told_pattern : AreTold kinds (of_pattern program)
  told_pattern = all_back (IsTold kinds) (of_vars program) (of_pattern program) told_to_pattern

  told_stored : AreTold kinds stored
  told_stored = all_both (IsTold kinds) (of_vars program) (of_scratches program) told_vars told_scratches

  -- the names of the pattern, of the store and of the inner heads are all
  pub all_bound : (env : Bindings) → AreBound env (of_pattern program ++ stored) → AreBound env (of_inner program) → AreBound env scope
  all_bound env some inner =
      let names = all_front (IsBound env) (of_pattern program) stored some in
      let kept = all_back (IsBound env) (of_pattern program) stored some in
      all_both (IsBound env) (after_heads program) (of_scratches program)
      (all_both (IsBound env) (after_pattern program) (of_inner program)
      (all_both (IsBound env) (of_vars program) (of_pattern program) (all_front (IsBound env) (of_vars program) (of_scratches program) kept) names) inner)
      (all_back (IsBound env) (of_vars program) (of_scratches program) kept)

  -- ---- stores and steps

  -- in the store in which a loop begins each name is bound to what fits
  pub start_fits : AreBound (start_store program) stored
  start_fits =
      let vars = literals_bound kinds Variable program.vars empty [] told_vars tt tt in
      let both = literals_bound kinds Scratch program.scratch (variables program) (of_vars program) told_scratches told_vars vars.1 in
      all_both (IsBound (start_store program)) (of_vars program) (of_scratches program) both.0 both.1

  -- the names at the start of a step, with an item of this kind
  names_fit : (store : Bindings) (item : Value) (place : ℕ) (x : ValueKind) → item_kind program.head.product program.head.axes ≡ Some x → fits x item ≡ true →
      1 ≤ place → place ≤ most_items → AreBound store stored → BoundWith stored (of_pattern program) (names_for program store item place)
  names_fit store item place x is fit least most h =
      let ns : List (List ℕ) = program.head.names in
      let takes : fits_pattern ns x ≡ true = sym (ap (pattern_takes ns) is) ∙ parts.takes in
      let known : pattern_known LoopVariable ns (item_kind program.head.product program.head.axes) ≡ pattern_known LoopVariable ns (Some x) = ap (pattern_known LoopVariable ns) is in
      let placed : HasPlace (get (insert store place_name (Int (pos place)))) =
      record { place = pos place; is = get-bound store place_name (Int (pos place)); fit = place_fits place least most } in
      subst (λ more. BoundWith stored more (names_for program store item place)) (sym known)
      (pattern_bound kinds LoopVariable ns x item (insert store place_name (Int (pos place))) stored takes fit (subst (AreTold kinds) known told_pattern) told_stored
      (place_bound kinds store (Int (pos place)) stored told_stored h) placed)

  -- the body run before the first statement
  pub first_stands : (store : Bindings) (item : Value) (place : ℕ) (x : ValueKind) → item_kind program.head.product program.head.axes ≡ Some x → fits x item ≡ true →
      1 ≤ place → place ≤ most_items → AreBound store stored → StandsFit test (of_pattern program ++ stored) (first_run (names_for program store item place))
  first_stands store item place x is fit least most h =
      let before = names_fit store item place x is fit least most h in
      record {
        bound = all_both (IsBound (names_for program store item place)) (of_pattern program) stored before.names before.others;
        placed = before.placed;
        emitted = refl;
      }

  pub told_first : AreTold kinds (of_pattern program ++ stored)
  told_first = all_both (IsTold kinds) (of_pattern program) stored told_pattern told_stored

  pub step_fits : (store : Bindings) (item : Value) (place : ℕ) (x : ValueKind) → item_kind program.head.product program.head.axes ≡ Some x → fits x item ≡ true →
      1 ≤ place → place ≤ most_items → AreBound store stored → StepFits test stored (body_step program store item place)
  step_fits store item place x is fit least most h =
      let done = (heads_fit test program parts.body all_told program.head.inner (of_pattern program ++ stored) 1 told_first told_inner all_bound).fit
      (first_run (names_for program store item place)) (first_stands store item place x is fit least most h) in
      let after : Bindings = (inner_runs program program.head.inner 1 (first_run (names_for program store item place))).names in
      record {
        emitted = done.emitted;
        store = keeping_bound (stored_names program) store after stored h (all_back (IsBound after) (of_pattern program) stored done.bound);
      }

  -- ---- runs

  run_fits : (x : ValueKind) → item_kind program.head.product program.head.axes ≡ Some x → (store : Bindings) (items : List Value) (place : ℕ) → list_all (fits x) items ≡ true →
      1 ≤ place → place + length items ≤ most_items + 1 → AreBound store stored → list_all test (loop_run program store items place).emitted ≡ true
  run_fits x is store [] place fit least most h = refl
  run_fits x is store (item ∷ items) place fit least most h =
      let both = and_parts (fits x item) (list_all (fits x) items) fit in
      let within : place ≤ most_items = omega arith in
      let later : 1 ≤ place + 1 = omega arith in
      let rest : (place + 1) + length items ≤ most_items + 1 = omega arith in
      let step = step_fits store item place x is both.0 least within h in
      step_first test (skips_faults program) (body_step program store item place).end (body_step program store item place) place
      (loop_run program (body_step program store item place).store items (place + 1)) step.emitted
      (run_fits x is (body_step program store item place).store items (place + 1) both.1 later rest step.store)

-- a head whose pattern takes its items has a kind of items
pub kind_given : (ns : List (List ℕ)) (o : Option ValueKind) → pattern_takes ns o ≡ true → (x : ValueKind) × (o ≡ Some x)
kind_given ns (Some x) takes = (x, refl)
kind_given ns None takes = absurd (cc)

-- what a loop whose entries fit emits over its items passes the test
pub runs_fit : (test : Test) (program : ProgramTree) (table : Contents) → AllByRecursion (EntryFits test) (entries_of program) → length (items_of program table) ≤ most_items →
    list_all test (loop_run program (start_store program) (items_of program table) 1).emitted ≡ true
runs_fit test program table entries most =
    let parts = parts_fit test program entries in
    let kind = kind_given program.head.names (item_kind program.head.product program.head.axes) parts.takes in
    run_fits test program parts kind.0 kind.1 (start_store program) (items_of program table) 1 (items_fit program.head (sources_of program table) kind.0 kind.1)
    (omega arith) (omega arith) (start_fits test program parts)

-- ---- stretches

pub all_taken : (p : Value → Bool) (n : ℕ) (xs : List Value) → list_all p xs ≡ true → list_all p (take n xs) ≡ true
all_taken p zero xs h = refl
all_taken p (suc n) [] h = refl
all_taken p (suc n) (x ∷ xs) h =
    let both = and_parts (p x) (list_all p xs) h in
    and_from (p x) (list_all p (take n xs)) both.0 (all_taken p n xs both.1)

pub all_left : (p : Value → Bool) (n : ℕ) (xs : List Value) → list_all p xs ≡ true → list_all p (drop n xs) ≡ true
all_left p zero xs h = h
all_left p (suc n) [] h = refl
all_left p (suc n) (x ∷ xs) h = all_left p n xs (and_parts (p x) (list_all p xs) h).1

module _ (test : Test) (program : ProgramTree) (parts : PartsFit test program) where
  -- where there is no item the place doesn't matter
  from_any_place : (x : ValueKind) → item_kind program.head.product program.head.axes ≡ Some x → (items : List Value) (place : ℕ) → list_all (fits x) items ≡ true →
      1 ≤ place → (1 ≤ length items → place + length items ≤ most_items + 1) → list_all test (loop_run program (start_store program) items place).emitted ≡ true
  from_any_place x is [] place fit least most = refl
  from_any_place x is (item ∷ items) place fit least most =
      let some : 1 ≤ length (item ∷ items) = omega arith in
      run_fits test program parts x is (start_store program) (item ∷ items) place fit least (most some) (start_fits test program parts)

-- what a loop whose entries fit emits over a stretch of its items, from the start, passes the test
pub stretches_fit : (test : Test) (program : ProgramTree) (table : Contents) → AllByRecursion (EntryFits test) (entries_of program) → length (items_of program table) ≤ most_items →
    (first count : ℕ) → 1 ≤ first → list_all test (loop_run program (start_store program) (take count (drop (first - 1) (items_of program table))) first).emitted ≡ true
stretches_fit test program table entries most first count low =
    let parts = parts_fit test program entries in
    let kind = kind_given program.head.names (item_kind program.head.product program.head.axes) parts.takes in
    let items = items_of program table in
    let all = items_fit program.head (sources_of program table) kind.0 kind.1 in
    from_any_place test program parts kind.0 kind.1 (take count (drop (first - 1) items)) first
    (all_taken (fits kind.0) count (drop (first - 1) items) (all_left (fits kind.0) (first - 1) items all)) low
    (λ some. omega (arith, some, low, most, length-take count (drop (first - 1) items), length-drop (first - 1) items))
