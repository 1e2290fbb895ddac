-- From a body run whose names fit the kinds in scope, a block whose lines fit leaves one whose names fit.
use Rattle.std.proofs.Common.{◌≡◌, ◌≢◌, ℕ, Bool, true, false, List, [], ◌∷◌, ◌++◌, map, Option, Some, None, Ok, Err, refl, ap, sym, ◌∙◌, subst, append-nil}
use Rattle.std.specs.Prelude.{◌&&◌, if◌then◌else◌, codes}
use Rattle.std.specs.FinMap.{get}
use Rattle.std.specs.List.{list_all, AllByRecursion}
use Rattle.std.specs.Option.{option_and_then}
use Rattle.std.proofs.lemmas.Bool.{and_from}
use Rattle.std.proofs.lemmas.List.Folds.{list_all-append}
use Rattle.loop_data.specs.ValueParts.{as_bool}
use Rattle.loop_data.specs.declared.value.Value.{Value}
use Rattle.loop_data.specs.declared.value.Value.TheVariants.{Nothing}
use Rattle.loop_data.specs.declared.value.ValueKind.{ValueKind, out-ValueKind, roll-ValueKind}
use Rattle.loop_data.specs.declared.value.ValueKind.TheVariants as kind
use Rattle.loop_data.specs.declared.expr.Expr.{Expr}
use Rattle.loop_data.specs.declared.tower.TowerExpr.{TowerExpr}
use Rattle.loop_data.specs.declared.statement.Statement.{Statement, fold-roll-Statement, ind-Statement, map-Statement, roll-Statement}
use Rattle.loop_data.specs.declared.statement.Branch.{Branch, fold-roll-Branch, roll-Branch}
use Rattle.loop_data.specs.declared.statement.Statement.TheOpen.{Statement-F, Statement-F as s, Branch-F}
use Rattle.loop_data.specs.declared.statement.Statement.TheFolds as folds
use Rattle.loop_values.specs.Bindings.{Bindings, place_name}
use Rattle.loop_values.specs.Fits.{IsFit, fits}
use Rattle.loop_values.specs.Kinds.{Kinded, is_maybe, kind_of}
use Rattle.loop_values.specs.NamesIn.{names_in}
use Rattle.loop_values.specs.Operations.{Outcome}
use Rattle.loop_values.specs.Stops.{fault_number}
use Rattle.loop_values.specs.Values.{value_of}
use Rattle.loop_values.proofs.BindingLaws.{get-other}
use Rattle.loop_values.proofs.PlainLemmas.{not_nothing}
use Rattle.loop_values.proofs.SameLemmas.{same_kind-sound}
use Rattle.loop_values.proofs.SoundLemmas.{maybe_at, rolled as rolled_kind, sound}
use Rattle.tower_inputs.specs.Inputs.{input_of}
use Rattle.tower_inputs.specs.Laws.{HasPlace}
use Rattle.legality_rules.specs.declared.scope.Sort.TheVariants.{Local}
use Rattle.legality_rules.specs.Cuts.{scope_after}
use Rattle.legality_rules.specs.Lines as lines
use Rattle.legality_rules.specs.Lines.{Branched, Entry, Listed, Listing, branch_listing, branches_in_turn, statement_listing}
use Rattle.legality_rules.specs.Rules.{is_of, passes}
use Rattle.legality_rules.specs.Scopes.{Scope, fits_pattern, found, kinds_in, known_as, pattern_known, unwrapped, unwrapped_at}
use Rattle.loop_meaning.specs.declared.steps.BodyRun.{BodyRun}
use Rattle.loop_meaning.specs.declared.steps.Flow.{Flow}
use Rattle.loop_meaning.specs.declared.steps.Flow.TheVariants.{Going, Continued, Broke, Faulted}
use Rattle.loop_meaning.specs.Statements.{Action, Choice, branch_run, branch_step, emitting, ending, first_true, in_turn, is_going, keeping_something, matching, naming, statement_run, statement_step, while_going, with_value}
use Rattle.fitting_inputs.specs.Fitting.{AreFresh, EntryFits, FitScope, InputsPass, RunFits, Test, Within, kind_passes, pair}
use Rattle.fitting_inputs.specs.Laws.{BlocksFit}
use Rattle.fitting_inputs.proofs.NameLemmas.{agree_joined, agree_within, kinds_stay, others_agree, pattern_agrees, place_kept, place_stays, placed_everywhere, set_agrees}

-- ---- entries, one after another

-- what holds of all in two lists holds in each
both_parts : {X : Type 0} (P : X → Type 0) (xs ys : List X) → AllByRecursion P (xs ++ ys) → AllByRecursion P xs × AllByRecursion P ys
both_parts P [] ys all = (tt, all)
both_parts P (x ∷ xs) ys all = let rest = both_parts P xs ys all.1 in ((all.0, rest.0), rest.1)

-- ---- kinds

-- what passes a test has a kind that does
passing : (test : ValueKind → Bool) (r : Kinded) → passes test r ≡ true → (x : ValueKind) × (r ≡ Ok x) × (test x ≡ true)
passing test (Ok x) e = (x, refl, e)
passing test (Err stop) e = absurd (cc)

-- the value of an expression fits its kind
kinded_value : (x : Expr) (scope : Scope) (names : Bindings) (y : ValueKind) (v : Value) → FitScope scope names → HasPlace (get names) → kind_of x (kinds_in scope) ≡ Ok y → value_of x (get names) ≡ Ok v →
    fits y v ≡ true
kinded_value x scope names y v a p is given =
    let fit : IsFit y (value_of x (get names)) = sound x (kinds_in scope) (get names) y a (placed_everywhere (get names) (names_in x) p) is in
    fit.fit v given

-- ---- flows

continued_isnt : Continued ≡ Going → ⊥
continued_isnt e = absurd (cc)

broke_isnt : (line : ℕ) → Broke line ≡ Going → ⊥
broke_isnt line e = absurd (cc)

faulted_isnt : (line kind : ℕ) → Faulted line kind ≡ Going → ⊥
faulted_isnt line kind e = absurd (cc)

is_going_so : (x : Flow) → is_going x ≡ true → x ≡ Going
is_going_so Going e = refl
is_going_so Continued e = absurd (cc)
is_going_so (Broke line) e = absurd (cc)
is_going_so (Faulted line kind) e = absurd (cc)

not_going_so : (x : Flow) → is_going x ≡ false → x ≡ Going → ⊥
not_going_so x e h = absurd (let g = ap is_going h in cc)

module _ (test : Test) where
  abbrev AllFit : List Entry → Type 0
  AllFit entries = AllByRecursion (EntryFits test) entries

  -- what an action does, where the body run goes on, leaves it fitting with what the line brings into scope
  record Fits (action : Action) (listing : Listing) : Type 0 where
    grows : (scope : Scope) → Within scope (listing scope).scope
    leaves : (outer scope : Scope) (run : BodyRun) → Within outer scope → run.flow ≡ Going → AllFit (listing scope).entries → RunFits test outer scope run → RunFits test outer (listing scope).scope (action run)

  -- the same of what several lines do, one after another
  record BlockFits (actions : List Action) (listings : List Listing) : Type 0 where
    grows : (scope : Scope) → Within scope (scope_after listings scope)
    leaves : (outer scope : Scope) (run : BodyRun) → Within outer scope → AllFit (lines.in_turn listings scope) → RunFits test outer scope run → RunFits test outer (scope_after listings scope) (in_turn actions run)

  -- what is done leaves the body run fitting with the names that were in scope
  abbrev Stays : Scope → Scope → Action → Type 0
  Stays outer scope action = (run : BodyRun) → run.flow ≡ Going → RunFits test outer scope run → RunFits test outer scope (action run)

  -- a condition with its block does so where what is done otherwise does
  abbrev BranchFits : Choice → Branched → Type 0
  BranchFits choice branched =
      (outer scope : Scope) (word : List ℕ) (other : Action) → Within outer scope → AllFit (branched word scope) → Stays outer scope other → Stays outer scope (choice other)

  -- ---- body runs

  -- with fewer names in scope
  narrowed : (outer some all : Scope) (run : BodyRun) → Within some all → RunFits test outer all run → RunFits test outer some run
  narrowed outer some all run within fit = record { around = fit.around; placed = fit.placed; going = λ on. agree_within some all (get run.names) within (fit.going on); emitted = fit.emitted }

  -- one that doesn't go on
  over : (outer scope after : Scope) (run : BodyRun) → (run.flow ≡ Going → ⊥) → RunFits test outer scope run → RunFits test outer after run
  over outer scope after run isnt fit = record { around = fit.around; placed = fit.placed; going = λ on. absurd (isnt on); emitted = fit.emitted }

  ends : (outer scope after : Scope) (run : BodyRun) (x : Flow) → (x ≡ Going → ⊥) → RunFits test outer scope run → RunFits test outer after (ending x run)
  ends outer scope after run x isnt fit = record { around = fit.around; placed = fit.placed; going = λ on. absurd (isnt on); emitted = fit.emitted }

  -- where it has ended nothing is done
  while_fits : (outer scope after : Scope) (action : Action) (run : BodyRun) → RunFits test outer scope run → (run.flow ≡ Going → RunFits test outer after (action run)) →
      RunFits test outer after (while_going action run)
  while_fits outer scope after action run fit next = at (is_going run.flow) refl
    where
      at : (b : Bool) → is_going run.flow ≡ b → RunFits test outer after (if b then action run else run)
      at true e = next (is_going_so run.flow e)
      at false e = over outer scope after run (not_going_so run.flow e) fit

  -- a value, or a fault that ends it
  given_value : (outer scope after : Scope) (line : ℕ) (o : Outcome) (next : Value → Action) (run : BodyRun) → RunFits test outer scope run →
      ((v : Value) → o ≡ Ok v → RunFits test outer after (next v run)) → RunFits test outer after (with_value line o next run)
  given_value outer scope after line (Ok v) next run fit h = h v refl
  given_value outer scope after line (Err stop) next run fit h = ends outer scope after run (Faulted line (fault_number stop)) (faulted_isnt line (fault_number stop)) fit

  -- ---- statements

  -- a value of a kind that the pattern takes, bound to its names
  matched : (outer scope : Scope) (ns : List (List ℕ)) (x : ValueKind) (v : Value) (run : BodyRun) → Within outer scope → AreFresh scope ns → fits_pattern ns x ≡ true → fits x v ≡ true →
      run.flow ≡ Going → RunFits test outer scope run → RunFits test outer (scope ++ pattern_known Local ns (Some x)) (matching ns v run)
  matched outer scope ns x v run within fresh takes is on fit = record {
    around = others_agree outer scope run.names ns v within fresh fit.around;
    placed = place_stays scope run.names ns v fresh fit.placed;
    going = λ _. agree_joined scope (pattern_known Local ns (Some x)) (get (matching ns v run).names)
        (others_agree scope scope run.names ns v (λ n y e. e) fresh (fit.going on)) (pattern_agrees Local ns x v run.names fresh.once takes is);
    emitted = fit.emitted;
  }

  let_fits : (line : ℕ) (ns : List (List ℕ)) (x : Expr) → Fits (statement_step (s.Let line ns x)) (lines.statement_step (s.Let line ns x))
  let_fits line ns x = record {
    grows = λ scope. kinds_stay scope (pattern_known Local ns (found (kind_of x (kinds_in scope))));
    leaves = λ outer scope run within on all fit.
        let says : AreFresh scope ns × (kind_passes scope (fits_pattern ns) x ≡ true) = all.0.says in
        let y = passing (fits_pattern ns) (kind_of x (kinds_in scope)) says.1 in
        given_value outer scope (scope ++ pattern_known Local ns (found (kind_of x (kinds_in scope)))) line (value_of x (get run.names)) (matching ns) run fit (λ v is.
        subst (λ r. RunFits test outer (scope ++ pattern_known Local ns (found r)) (matching ns v run)) (sym y.1)
        (matched outer scope ns y.0 v run within says.0 y.2 (kinded_value x scope run.names y.0 v (fit.going on) fit.placed y.1 is) on fit));
  }

  -- a name of this kind gets a value that fits
  named : (outer scope : Scope) (n : List ℕ) (x : ValueKind) (v : Value) (run : BodyRun) → Within outer scope → n ≢ place_name → kinds_in scope n ≡ Some x → fits x v ≡ true →
      run.flow ≡ Going → RunFits test outer scope run → RunFits test outer (scope ++ []) (naming n v run)
  named outer scope n x v run within ne kinded is on fit =
      subst (λ sc. RunFits test outer sc (naming n v run)) (sym (append-nil scope)) (record {
        around = set_agrees (kinds_in outer) run.names n v (λ y e. fit_as y (within n y e)) fit.around;
        placed = place_kept (get run.names) (get (naming n v run).names) (get-other run.names n place_name v (λ e. ne (sym e))) fit.placed;
        going = λ _. set_agrees (kinds_in scope) run.names n v fit_as (fit.going on);
        emitted = fit.emitted;
      })
    where
      some_is : (y : ValueKind) → Some x ≡ Some y → x ≡ y
      some_is y e = cc

      fit_as : (y : ValueKind) → kinds_in scope n ≡ Some y → fits y v ≡ true
      fit_as y e = subst (λ z. fits z v ≡ true) (some_is y (sym kinded ∙ e)) is

  -- the kind of a name that takes a value of this kind
  taker : (o : Option ValueKind) (y : ValueKind) → is_of o y ≡ true → o ≡ Some y
  taker (Some x) y e = ap (λ z. Some z) (same_kind-sound x y e)
  taker None y e = absurd (cc)

  set_fits : (line : ℕ) (n : List ℕ) (x : Expr) → Fits (statement_step (s.Set line n x)) (lines.statement_step (s.Set line n x))
  set_fits line n x = record {
    grows = λ scope. kinds_stay scope [];
    leaves = λ outer scope run within on all fit.
        let says : (n ≢ place_name) × (kind_passes scope (is_of (kinds_in scope n)) x ≡ true) = all.0.says in
        let y = passing (is_of (kinds_in scope n)) (kind_of x (kinds_in scope)) says.1 in
        given_value outer scope (scope ++ []) line (value_of x (get run.names)) (naming n) run fit (λ v is.
        named outer scope n y.0 v run within says.0 (taker (kinds_in scope n) y.0 y.2) (kinded_value x scope run.names y.0 v (fit.going on) fit.placed y.1 is) on fit);
  }

  -- nothing ends the body run, and another value is named
  kept_or_ended : (n : List ℕ) (v : Value) (run : BodyRun) (P : BodyRun → Type 0) → P (ending Continued run) → (v ≢ Nothing → P (matching (n ∷ []) v run)) → P (keeping_something n v run)
  kept_or_ended n Nothing run P ended named = ended
  kept_or_ended n v run P ended named = named (λ e. absurd (cc))

  -- what is within Maybe
  inside : (y : ValueKind) → is_maybe y ≡ true → (x : ValueKind) × (unwrapped y ≡ Some x) × (y ≡ kind.Maybe x)
  inside y e =
      let z = maybe_at (out-ValueKind y) e in
      (z.0, ap unwrapped_at z.1, sym (rolled_kind y) ∙ ap roll-ValueKind z.1 ∙ kind.rolls-Maybe z.0)

  keep_fits : (line : ℕ) (n : List ℕ) (x : Expr) → Fits (statement_step (s.Keep line n x)) (lines.statement_step (s.Keep line n x))
  keep_fits line n x = record {
    grows = λ scope. kinds_stay scope (known_as Local n (option_and_then unwrapped (found (kind_of x (kinds_in scope)))) ∷ []);
    leaves = λ outer scope run within on all fit.
        let says : AreFresh scope (n ∷ []) × (kind_passes scope is_maybe x ≡ true) = all.0.says in
        let y = passing is_maybe (kind_of x (kinds_in scope)) says.1 in
        let z = inside y.0 y.2 in
        let after : Option ValueKind → Scope = λ o. scope ++ known_as Local n o ∷ [] in
        let known : option_and_then unwrapped (found (kind_of x (kinds_in scope))) ≡ Some z.0 = ap (λ r. option_and_then unwrapped (found r)) y.1 ∙ z.1 in
        given_value outer scope (after (option_and_then unwrapped (found (kind_of x (kinds_in scope))))) line (value_of x (get run.names)) (keeping_something n) run fit (λ v is.
        subst (λ o. RunFits test outer (after o) (keeping_something n v run)) (sym known)
        (kept_or_ended n v run (RunFits test outer (after (Some z.0))) (ends outer scope (after (Some z.0)) run Continued continued_isnt fit) (λ ne.
        let whole : fits (kind.Maybe z.0) v ≡ true = subst (λ w. fits w v ≡ true) z.2 (kinded_value x scope run.names y.0 v (fit.going on) fit.placed y.1 is) in
        matched outer scope (n ∷ []) z.0 v run within says.0 refl (not_nothing z.0 v ne whole) on fit)));
  }

  reduce_fits : (line : ℕ) (n : List ℕ) (tower : TowerExpr) (start : Option Value) → Fits (statement_step (s.Reduce line n tower start)) (lines.statement_step (s.Reduce line n tower start))
  reduce_fits line n tower start = record {
    grows = λ scope. kinds_stay scope [];
    leaves = λ outer scope run within on all fit.
        let says : InputsPass test scope n tower = all.0.says in
        given_value outer scope (scope ++ []) line (input_of tower (get run.names)) (emitting n) run fit (λ v is. record {
          around = fit.around;
          placed = fit.placed;
          going = λ _. agree_joined scope [] (get run.names) (fit.going on) (record { values = λ m y e. absurd (cc) });
          emitted = list_all-append test run.emitted (pair n v ∷ [])
              ∙ and_from (list_all test run.emitted) (test (pair n v) && true) fit.emitted (and_from (test (pair n v)) true (says (get run.names) v (fit.going on) fit.placed is) refl);
        });
  }

  end_fits : (x : Flow) → (x ≡ Going → ⊥) → Fits (ending x) (λ scope. record { entries = []; scope = scope })
  end_fits x isnt = record { grows = λ scope n y e. e; leaves = λ outer scope run within on all fit. ends outer scope scope run x isnt fit }

  -- ---- blocks

  none_fit : BlockFits [] []
  none_fit = record { grows = λ scope n x e. e; leaves = λ outer scope run within all fit. fit }

  more_fit : (action : Action) (actions : List Action) (listing : Listing) (listings : List Listing) → Fits action listing → BlockFits actions listings → BlockFits (action ∷ actions) (listing ∷ listings)
  more_fit action actions listing listings first rest = record {
    grows = λ scope n x e. rest.grows (listing scope).scope n x (first.grows scope n x e);
    leaves = λ outer scope run within all fit.
        let here : Listed = listing scope in
        let both : AllFit here.entries × AllFit (lines.in_turn listings here.scope) = both_parts (EntryFits test) here.entries (lines.in_turn listings here.scope) all in
        rest.leaves outer here.scope (while_going action run) (λ n x e. first.grows scope n x (within n x e)) both.1
        (while_fits outer scope here.scope action run fit (λ on. first.leaves outer scope run within on both.0 fit));
  }

  -- behind a block the names in scope are those before it
  block_stays : (actions : List Action) (listings : List Listing) (outer scope : Scope) → BlockFits actions listings → Within outer scope → AllFit (lines.in_turn listings scope) → Stays outer scope (in_turn actions)
  block_stays actions listings outer scope block within all run on fit =
      narrowed outer scope (scope_after listings scope) (in_turn actions run) (block.grows scope) (block.leaves outer scope run within all fit)

  branch_fits : (line : ℕ) (x : Expr) (actions : List Action) (listings : List Listing) → BlockFits actions listings →
      BranchFits (branch_step (record { line = line; test = x; block = actions })) (lines.branch_step (record { line = line; test = x; block = listings }))
  branch_fits line x actions listings block outer scope word other within all stays run on fit =
      given_value outer scope scope line (value_of x (get run.names)) (λ v. if as_bool v then in_turn actions else other) run fit (λ v is. chosen (as_bool v))
    where
      chosen : (b : Bool) → RunFits test outer scope ((if b then in_turn actions else other) run)
      chosen true = block_stays actions listings outer scope block within all.1 run on fit
      chosen false = stays run on fit

  -- ---- trees of statements

  abbrev IsFitting : Statement → Type 0
  IsFitting x = Fits (statement_run x) (statement_listing x)

  abbrev IsFittingBranch : Branch → Type 0
  IsFittingBranch b = BranchFits (branch_run b) (branch_listing b)

  abbrev Such : Type 0
  Such = (x : Statement) × IsFitting x

  abbrev SuchBranch : Type 0
  SuchBranch = (b : Branch) × IsFittingBranch b

  abbrev bare : Such → Statement
  bare e = e.0

  abbrev bare_branch : SuchBranch → Branch
  bare_branch e = e.0

  block_fits : (xs : List Such) → BlockFits (map statement_run (map bare xs)) (map statement_listing (map bare xs))
  block_fits [] = none_fit
  block_fits (x ∷ xs) = more_fit (statement_run x.0) (map statement_run (map bare xs)) (statement_listing x.0) (map statement_listing (map bare xs)) x.1 (block_fits xs)

  branches_stay : (bs : List SuchBranch) (outer scope : Scope) (word : List ℕ) (other : Action) → Within outer scope →
      AllFit (branches_in_turn word (map branch_listing (map bare_branch bs)) scope) → Stays outer scope other → Stays outer scope (first_true (map branch_run (map bare_branch bs)) other)
  branches_stay [] outer scope word other within all stays = stays
  branches_stay (b ∷ bs) outer scope word other within all stays =
      let more : List Entry = branches_in_turn (codes "elseif") (map branch_listing (map bare_branch bs)) scope in
      let both : AllFit (branch_listing b.0 word scope) × AllFit more = both_parts (EntryFits test) (branch_listing b.0 word scope) more all in
      b.1 outer scope word (first_true (map branch_run (map bare_branch bs)) other) within both.0 (branches_stay bs outer scope (codes "elseif") other within both.1 stays)

  if_fits : (line : ℕ) (bs : List SuchBranch) (else_line : ℕ) (other : List Such) (end_line : ℕ) →
      Fits (first_true (map branch_run (map bare_branch bs)) (in_turn (map statement_run (map bare other))))
      (lines.statement_step (s.If line (map branch_listing (map bare_branch bs)) else_line (map statement_listing (map bare other)) end_line))
  if_fits line bs else_line other end_line = record {
    grows = λ scope n x e. e;
    leaves = λ outer scope run within on all fit.
        let first : List Entry = branches_in_turn (codes "if") (map branch_listing (map bare_branch bs)) scope in
        let rest : List Entry = lines.in_turn (map statement_listing (map bare other)) scope in
        let both : AllFit first × AllFit rest = both_parts (EntryFits test) first rest all in
        branches_stay bs outer scope (codes "if") (in_turn (map statement_run (map bare other))) within both.0
        (block_stays (map statement_run (map bare other)) (map statement_listing (map bare other)) outer scope (block_fits other) within both.1) run on fit;
  }

  abbrev RunOf : Statement-F Statement Branch → Action
  RunOf w = statement_step (map-Statement Statement Branch Action Choice statement_run branch_run w)

  abbrev ListingOf : Statement-F Statement Branch → Listing
  ListingOf w = lines.statement_step (map-Statement Statement Branch Listing Branched statement_listing branch_listing w)

  abbrev BranchRunOf : Branch-F Statement Branch → Choice
  BranchRunOf w = branch_step (folds.map-Branch Statement Branch Action Choice statement_run branch_run w)

  abbrev BranchedOf : Branch-F Statement Branch → Branched
  BranchedOf w = lines.branch_step (folds.map-Branch Statement Branch Listing Branched statement_listing branch_listing w)

  abbrev bared : Statement-F Such SuchBranch → Statement-F Statement Branch
  bared y = map-Statement Such SuchBranch Statement Branch bare bare_branch y

  abbrev bared_branch : Branch-F Such SuchBranch → Branch-F Statement Branch
  bared_branch y = folds.map-Branch Such SuchBranch Statement Branch bare bare_branch y

  layer_fits : (y : Statement-F Such SuchBranch) → Fits (RunOf (bared y)) (ListingOf (bared y))
  layer_fits (s.Let line ns x) = let_fits line ns x
  layer_fits (s.Set line n x) = set_fits line n x
  layer_fits (s.If line branches else_line other end_line) = if_fits line branches else_line other end_line
  layer_fits (s.Keep line n x) = keep_fits line n x
  layer_fits (s.Reduce line n tower start) = reduce_fits line n tower start
  layer_fits (s.Continue line) = end_fits Continued continued_isnt
  layer_fits (s.Break line) = end_fits (Broke line) (broke_isnt line)

  branch_layer_fits : (y : Branch-F Such SuchBranch) → BranchFits (BranchRunOf (bared_branch y)) (BranchedOf (bared_branch y))
  branch_layer_fits y = branch_fits y.line y.test (map statement_run (map bare y.block)) (map statement_listing (map bare y.block)) (block_fits y.block)

  rolled : (x : Statement-F Statement Branch) → Fits (RunOf x) (ListingOf x) → IsFitting (roll-Statement x)
  rolled x h =
      subst (λ z. Fits z (statement_listing (roll-Statement x))) (sym (fold-roll-Statement Action Choice statement_step branch_step x))
      (subst (Fits (RunOf x)) (sym (fold-roll-Statement Listing Branched lines.statement_step lines.branch_step x)) h)

  rolled_branch : (x : Branch-F Statement Branch) → BranchFits (BranchRunOf x) (BranchedOf x) → IsFittingBranch (roll-Branch x)
  rolled_branch x h =
      subst (λ z. BranchFits z (branch_listing (roll-Branch x))) (sym (fold-roll-Branch Action Choice statement_step branch_step x))
      (subst (BranchFits (BranchRunOf x)) (sym (fold-roll-Branch Listing Branched lines.statement_step lines.branch_step x)) h)

  statement_fits : (x : Statement) → IsFitting x
  statement_fits = ind-Statement IsFitting IsFittingBranch
      (λ x y is. rolled x (subst (λ w. Fits (RunOf w) (ListingOf w)) is (layer_fits y)))
      (λ x y is. rolled_branch x (subst (λ w. BranchFits (BranchRunOf w) (BranchedOf w)) is (branch_layer_fits y)))

  all_statements_fit : (xs : List Statement) → BlockFits (map statement_run xs) (map statement_listing xs)
  all_statements_fit [] = none_fit
  all_statements_fit (x ∷ xs) = more_fit (statement_run x) (map statement_run xs) (statement_listing x) (map statement_listing xs) (statement_fits x) (all_statements_fit xs)

pub blocks_fit : BlocksFit
blocks_fit test block outer scope run within all fit = (all_statements_fit test block).leaves outer scope run within all fit
