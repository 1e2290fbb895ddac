-- No expression that a legal loop may evaluate asks for a default: where it is evaluated the names in scope are bound to values of
-- their kinds, and it has a kind under these.
use Rattle.std.proofs.Common.{◌≡◌, ℕ, zero, suc, ◌+◌, ◌≤◌, true, List, [], ◌∷◌, ◌++◌, length, map, drop, length-take, length-drop, Some, sym, subst, append-nil, arith, codes, ℤ}
use Rattle.std.specs.Prelude.{◌-◌, slice_get}
use Rattle.std.specs.FinMap.{get}
use Rattle.std.specs.List.{list_all, AllByRecursion}
use Rattle.std.proofs.lemmas.Bool.{and_parts}
use Rattle.number_ranges.specs.Ranges.{most_items}
use Rattle.loop_data.specs.declared.value.Value.{Value}
use Rattle.loop_data.specs.declared.value.ValueKind.{ValueKind}
use Rattle.loop_data.specs.declared.expr.Expr.{Expr}
use Rattle.loop_data.specs.declared.head.Inner.{Inner}
use Rattle.loop_data.specs.declared.statement.Statement.{Statement, fold-roll-Statement, map-Statement}
use Rattle.loop_data.specs.declared.statement.Branch.{Branch, fold-roll-Branch}
use Rattle.loop_data.specs.declared.statement.Statement.TheOpen.{Statement-F, Statement-F as s}
use Rattle.loop_grammar.specs.declared.tree.ProgramTree.{ProgramTree}
use Rattle.loop_values.specs.Bindings.{Bindings}
use Rattle.loop_values.specs.Fits.{fits}
use Rattle.loop_values.specs.Kinds.{Kinds}
use Rattle.loop_values.specs.NamesIn.{names_in}
use Rattle.loop_values.proofs.StrictLemmas.{no_default}
use Rattle.tower_inputs.specs.Laws.{HasPlace}
use Rattle.legality_rules.specs.Lines as lines
use Rattle.legality_rules.specs.Lines.{Branched, Entry, Listing, branch_listing, branches_in_turn, entries_of, inner_listing, range_bounds, statement_listing}
use Rattle.legality_rules.specs.Scopes.{Scope, item_kind, kinds_in}
use Rattle.loop_meaning.specs.declared.steps.BodyRun.{BodyRun}
use Rattle.loop_meaning.specs.declared.steps.Flow.TheVariants.{Going}
use Rattle.loop_meaning.specs.Items.{items_of, sources_of}
use Rattle.loop_meaning.specs.Statements.{statement_run, while_going}
use Rattle.loop_meaning.specs.Steps.{for_item, inner_runs}
use Rattle.fitting_inputs.specs.Evaluated.{AreKinded, HasKind, InBlock, InBranch, InHeads, InItems, InRun, InStatement, IsStrict, own_expressions}
use Rattle.fitting_inputs.specs.Fitting.{EntryFits, FitScope, RunFits, Test}
use Rattle.fitting_inputs.specs.Laws.{LegalRunsAreStrict}
use Rattle.fitting_inputs.specs.ReduceLines.{fits_reducer}
use Rattle.fitting_inputs.proofs.BlockLemmas.{blocks_fit}
use Rattle.fitting_inputs.proofs.EntryFacts.{legal_entries_fit}
use Rattle.fitting_inputs.proofs.FreshNames.{AreTold, all_back, all_both, all_front}
use Rattle.fitting_inputs.proofs.HeadScopes.{PartsFit, after_pattern, before_body, inner_known, of_pattern, of_scratches, of_vars, parts_fit, parts_hold}
use Rattle.fitting_inputs.proofs.ItemLemmas.{items_fit}
use Rattle.fitting_inputs.proofs.KindedLines.{legal_expressions_have_kinds}
use Rattle.fitting_inputs.proofs.NameLemmas.{none_agree, placed_everywhere}
use Rattle.fitting_inputs.proofs.ReducerFacts.{each}
use Rattle.fitting_inputs.proofs.RunLemmas.{all_bound, all_left, all_taken, all_told, first_stands, kind_given, start_fits, step_fits, told_first, told_inner}
use Rattle.fitting_inputs.proofs.StepLemmas.{KeepsFit, StandsFit, heads_fit, item_fits, item_stands, while_stands}
use Rattle.fitting_inputs.proofs.StoreLemmas.{AreBound, IsBound, bound_fit}

-- an expression that has a kind, with the names in scope bound to values of their kinds
strict : (x : Expr) (scope : Scope) (names : Bindings) → HasKind scope x → FitScope scope names → HasPlace (get names) → IsStrict x names
strict x scope names kinded fit placed = no_default x (kinds_in scope) (get names) kinded.0 fit (placed_everywhere (get names) (names_in x) placed) kinded.1

-- what holds of all holds of each
of_all : {X : Type 0} (P : X → Type 0) (xs : List X) (i : ℕ) (x : X) → AllByRecursion P xs → slice_get xs i ≡ Some x → P x
of_all P [] i x all at = absurd (cc)
of_all P (y ∷ ys) zero x all at = let here : y ≡ x = cc in subst P here all.0
of_all P (y ∷ ys) (suc i) x all at = of_all P ys i x all.1 at

-- an entry fits, and its expressions have kinds
record Holds (test : Test) (entry : Entry) : Type 0 where
  pub line_fits : EntryFits test entry
  pub kinded : AreKinded entry

both_hold : (test : Test) (es : List Entry) → AllByRecursion (EntryFits test) es → AllByRecursion AreKinded es → AllByRecursion (Holds test) es
both_hold test [] h k = tt
both_hold test (entry ∷ es) h k = (record { line_fits = h.0; kinded = k.0 }, both_hold test es h.1 k.1)

-- ---- statements

abbrev ListingOf : Statement-F Statement Branch → Listing
ListingOf layer = lines.statement_step (map-Statement Statement Branch Listing Branched statement_listing branch_listing layer)

module _ (test : Test) where
  own_kinded : (layer : Statement-F Statement Branch) (scope : Scope) → AllByRecursion (Holds test) (ListingOf layer scope).entries → AllByRecursion (HasKind scope) (own_expressions layer)
  own_kinded (s.Let line ns x) scope all = all.0.kinded
  own_kinded (s.Set line n x) scope all = all.0.kinded
  own_kinded (s.If line branches else_line other end_line) scope all = tt
  own_kinded (s.Keep line n x) scope all = all.0.kinded
  own_kinded (s.Reduce line n tower start) scope all = all.0.kinded
  own_kinded (s.Continue line) scope all = tt
  own_kinded (s.Break line) scope all = tt

  branch_holds : (branches : List Branch) (i : ℕ) (b : Branch) (word : List ℕ) (scope : Scope) → AllByRecursion (Holds test) (branches_in_turn word (map branch_listing branches) scope) →
      slice_get branches i ≡ Some b → (own : List ℕ) × AllByRecursion (Holds test) (branch_listing b own scope)
  branch_holds [] i b word scope all at = absurd (cc)
  branch_holds (c ∷ cs) zero b word scope all at =
      let here : c ≡ b = cc in (
        word,
        subst (λ z. AllByRecursion (Holds test) (branch_listing z word scope)) here
            (all_front (Holds test) (branch_listing c word scope) (branches_in_turn (codes "elseif") (map branch_listing cs) scope) all),
      )
  branch_holds (c ∷ cs) (suc i) b word scope all at =
      branch_holds cs i b (codes "elseif") scope (all_back (Holds test) (branch_listing c word scope) (branches_in_turn (codes "elseif") (map branch_listing cs) scope) all) at

  -- one statement leaves a body run that fits
  after_one : (z : Statement) (scope : Scope) (run : BodyRun) → AllByRecursion (Holds test) (statement_listing z scope).entries → RunFits test [] scope run →
      RunFits test [] (statement_listing z scope).scope (while_going (statement_run z) run)
  after_one z scope run all fit =
      let entries : List Entry = (statement_listing z scope).entries in
      let fitting : AllByRecursion (EntryFits test) entries = each (Holds test) (EntryFits test) (λ entry h. h.line_fits) entries all in
      blocks_fit test (z ∷ []) [] scope run (λ n x e. absurd (cc)) (subst (AllByRecursion (EntryFits test)) (sym (append-nil entries)) fitting) fit

  mutual
    block_strict : {block : List Statement} {run : BodyRun} {x : Expr} {names : Bindings} → InBlock block run x names → (scope : Scope) →
        AllByRecursion (Holds test) (lines.in_turn (map statement_listing block) scope) → RunFits test [] scope run → IsStrict x names
    block_strict (InBlock.here {z = z} {zs = zs} on inside) scope all fit =
        statement_strict inside scope
        (all_front (Holds test) (statement_listing z scope).entries (lines.in_turn (map statement_listing zs) (statement_listing z scope).scope) all) on fit
    block_strict (InBlock.later {z = z} {zs = zs} {run = run} inside) scope all fit =
        let rest : List Entry = lines.in_turn (map statement_listing zs) (statement_listing z scope).scope in
        block_strict inside (statement_listing z scope).scope (all_back (Holds test) (statement_listing z scope).entries rest all)
        (after_one z scope run (all_front (Holds test) (statement_listing z scope).entries rest all) fit)

    statement_strict : {z : Statement} {run : BodyRun} {x : Expr} {names : Bindings} → InStatement z run x names → (scope : Scope) →
        AllByRecursion (Holds test) (statement_listing z scope).entries → run.flow ≡ Going → RunFits test [] scope run → IsStrict x names
    statement_strict (InStatement.own layer i {run = run} {x = x} at) scope all on fit =
        let here = subst (λ (l : Listing). AllByRecursion (Holds test) (l scope).entries) (fold-roll-Statement Listing Branched lines.statement_step lines.branch_step layer) all in
        strict x scope run.names (of_all (HasKind scope) (own_expressions layer) i x (own_kinded layer scope here) at) (fit.going on) fit.placed
    statement_strict (InStatement.in_branch line else_line end_line branches other i {b = b} at inside) scope all on fit =
        let here = subst (λ (l : Listing). AllByRecursion (Holds test) (l scope).entries)
        (fold-roll-Statement Listing Branched lines.statement_step lines.branch_step (s.If line branches else_line other end_line)) all in
        let first = all_front (Holds test) (branches_in_turn (codes "if") (map branch_listing branches) scope) (lines.in_turn (map statement_listing other) scope) here in
        let branch = branch_holds branches i b (codes "if") scope first at in
        branch_strict inside scope branch.0 branch.1 on fit
    statement_strict (InStatement.in_else line else_line end_line branches other inside) scope all on fit =
        let here = subst (λ (l : Listing). AllByRecursion (Holds test) (l scope).entries)
        (fold-roll-Statement Listing Branched lines.statement_step lines.branch_step (s.If line branches else_line other end_line)) all in
        block_strict inside scope (all_back (Holds test) (branches_in_turn (codes "if") (map branch_listing branches) scope) (lines.in_turn (map statement_listing other) scope) here) fit

    branch_strict : {b : Branch} {run : BodyRun} {x : Expr} {names : Bindings} → InBranch b run x names → (scope : Scope) (word : List ℕ) →
        AllByRecursion (Holds test) (branch_listing b word scope) → run.flow ≡ Going → RunFits test [] scope run → IsStrict x names
    branch_strict (InBranch.in_test b {run = run}) scope word all on fit =
        let here = subst (λ (l : Branched). AllByRecursion (Holds test) (l word scope)) (fold-roll-Branch Listing Branched lines.statement_step lines.branch_step b) all in
        strict b.test scope run.names here.0.kinded.0 (fit.going on) fit.placed
    branch_strict (InBranch.in_block b inside) scope word all on fit =
        let here = subst (λ (l : Branched). AllByRecursion (Holds test) (l word scope)) (fold-roll-Branch Listing Branched lines.statement_step lines.branch_step b) all in
        block_strict inside scope here.1 fit

-- ---- inner heads

module _ (test : Test) (program : ProgramTree) (parts : PartsFit test program) (kinded : AllByRecursion AreKinded (entries_of program)) where
  abbrev scope : Scope
  scope = before_body program

  abbrev kinds : Kinds
  kinds = kinds_in scope

  abbrev stored : Scope
  stored = of_vars program ++ of_scratches program

  told : AreTold kinds scope
  told = all_told test program parts

  body_holds : AllByRecursion (Holds test) (lines.in_turn (map statement_listing program.body) scope)
  body_holds = both_hold test (lines.in_turn (map statement_listing program.body) scope) parts.body (parts_hold program AreKinded kinded).on_body

  -- Where `some` are the names that are bound, which with those of these heads are all before the body; `now` those of them that
  -- are in scope at the first of these heads.
  record UnderHeads (heads : List Inner) (some now : Scope) : Type 0 where
    pub told_some : AreTold kinds some
    pub told_heads : AreTold kinds (map inner_known heads)
    pub whole : (env : Bindings) → AreBound env some → AreBound env (map inner_known heads) → AreBound env scope
    pub here : (env : Bindings) → AreBound env some → AreBound env now
    pub bounds : AllByRecursion AreKinded (lines.in_turn (map (inner_listing program.head) heads) now)

  -- under one head more
  under_one : (head : Inner) (heads : List Inner) (some now : Scope) → UnderHeads (head ∷ heads) some now → UnderHeads heads (inner_known head ∷ some) (now ++ inner_known head ∷ [])
  under_one head heads some now u = record {
    told_some = (u.told_heads.0, u.told_some);
    told_heads = u.told_heads.1;
    whole = λ env b c. u.whole env b.1 (b.0, c);
    here = λ env b. all_both (IsBound env) now (inner_known head ∷ []) (u.here env b.1) (b.0, tt);
    bounds = u.bounds.1;
  }

  mutual
    heads_strict : {heads : List Inner} {width : ℕ} {run : BodyRun} {x : Expr} {names : Bindings} → InHeads program heads width run x names → (some now : Scope) →
        UnderHeads heads some now → StandsFit test some run → IsStrict x names
    heads_strict (InHeads.in_body {run = run} inside) some now u st =
        let fit = bound_fit scope run.names (u.whole run.names st.bound tt) in
        block_strict test inside scope body_holds (record { around = none_agree (get run.names); placed = st.placed; going = λ on. fit; emitted = st.emitted })
    heads_strict (InHeads.of_bound i {head = head} {run = run} {x = x} at) some now u st =
        strict x now run.names (of_all (HasKind now) (range_bounds head.range) i x u.bounds.0 at) (bound_fit now run.names (u.here run.names st.bound)) st.placed
    heads_strict (InHeads.of_item is inside) some now u st = items_strict inside some now u st

    items_strict : {head : Inner} {heads : List Inner} {width : ℕ} {items : List ℤ} {run : BodyRun} {x : Expr} {names : Bindings} → InItems program head heads width items run x names →
        (some now : Scope) → UnderHeads (head ∷ heads) some now → StandsFit test some run → IsStrict x names
    items_strict (InItems.at_item {head = head} {heads = heads} {item = item} {run = run} inside) some now u st =
        heads_strict inside (inner_known head ∷ some) (now ++ inner_known head ∷ []) (under_one head heads some now u)
        (item_stands test program parts.body told some head u.told_some u.told_heads.0 item run st)
    items_strict (InItems.past_item {head = head} {heads = heads} {width = width} {item = item} {run = run} inside) some now u st =
        let under = under_one head heads some now u in
        let kept : KeepsFit test (inner_known head ∷ some) (inner_runs program heads width) =
        heads_fit test program parts.body told heads (inner_known head ∷ some) width under.told_some under.told_heads under.whole in
        let action = for_item program head.name (inner_runs program heads width) item in
        items_strict inside some now u
        (while_stands test some action (item_fits test program parts.body told some head (inner_runs program heads width) u.told_some u.told_heads.0 kept item) run st)

  -- ---- runs

  first_heads : UnderHeads program.head.inner (of_pattern program ++ stored) (after_pattern program)
  first_heads = record {
    told_some = told_first test program parts;
    told_heads = told_inner test program parts;
    whole = all_bound test program parts;
    here = λ env b.
        let kept = all_back (IsBound env) (of_pattern program) stored b in
        all_both (IsBound env) (of_vars program) (of_pattern program) (all_front (IsBound env) (of_vars program) (of_scratches program) kept)
        (all_front (IsBound env) (of_pattern program) stored b);
    bounds = (parts_hold program AreKinded kinded).on_heads.1;
  }

  module _ (kind : ValueKind) (is : item_kind program.head.product program.head.axes ≡ Some kind) where
    run_strict : {store : Bindings} {items : List Value} {place : ℕ} {x : Expr} {names : Bindings} → InRun program store items place x names → list_all (fits kind) items ≡ true →
        1 ≤ place → (1 ≤ length items → place + length items ≤ most_items + 1) → AreBound store stored → IsStrict x names
    run_strict (InRun.at_first {store = store} {item = item} {items = items} {place = place} inside) fit least most h =
        let both = and_parts (fits kind item) (list_all (fits kind) items) fit in
        let some : 1 ≤ length (item ∷ items) = omega arith in
        let within : place ≤ most_items = omega (arith, most some) in
        heads_strict inside (of_pattern program ++ stored) (after_pattern program) first_heads (first_stands test program parts store item place kind is both.0 least within h)
    run_strict (InRun.at_later {store = store} {item = item} {items = items} {place = place} inside) fit least most h =
        let both = and_parts (fits kind item) (list_all (fits kind) items) fit in
        let some : 1 ≤ length (item ∷ items) = omega arith in
        let within : place ≤ most_items = omega (arith, most some) in
        let later : 1 ≤ place + 1 = omega arith in
        run_strict inside both.1 later (λ more. omega (arith, most some)) (step_fits test program parts store item place kind is both.0 least within h).store

pub legal_runs_are_strict : LegalRunsAreStrict
legal_runs_are_strict text program table first count x names spells legal most low inside =
    let test : Test = fits_reducer program in
    let parts = parts_fit test program (legal_entries_fit text program spells legal) in
    let kind = kind_given program.head.names (item_kind program.head.product program.head.axes) parts.takes in
    let items = items_of program table in
    let all = items_fit program.head (sources_of program table) kind.0 kind.1 in
    run_strict test program parts (legal_expressions_have_kinds program legal) kind.0 kind.1 inside
    (all_taken (fits kind.0) count (drop (first - 1) items) (all_left (fits kind.0) (first - 1) items all)) low
    (λ some. omega (arith, some, low, most, length-take count (drop (first - 1) items), length-drop (first - 1) items))
    (start_fits test program parts)
