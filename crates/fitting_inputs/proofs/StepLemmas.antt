-- The body runs of one step: from names that fit they leave names that fit, and what they emit passes the test.
use Rattle.std.proofs.Common.{◌≡◌, ℕ, ◌*◌, Bool, true, false, List, [], ◌∷◌, length, map, Some, Result, Ok, Err, refl, sym, ◌∙◌, subst, ℤ}
use Rattle.std.specs.Prelude.{if◌then◌else◌}
use Rattle.std.specs.List.{list_all, AllByRecursion}
use Rattle.std.specs.FinMap.{get}
use Rattle.loop_data.specs.declared.value.Value.TheVariants.{Int}
use Rattle.loop_data.specs.declared.value.ValueKind.{ValueKind}
use Rattle.loop_data.specs.declared.value.ValueKind.TheVariants as kind
use Rattle.loop_data.specs.declared.head.Inner.{Inner}
use Rattle.loop_grammar.specs.declared.tree.ProgramTree.{ProgramTree}
use Rattle.loop_values.specs.declared.stop.EvalStop.{EvalStop}
use Rattle.loop_values.specs.Bindings.{Bindings}
use Rattle.loop_values.specs.Fits.{fits}
use Rattle.loop_values.specs.InnerItems.{inner_items}
use Rattle.loop_values.specs.Kinds.{Kinds}
use Rattle.loop_values.proofs.SoundLemmas.{fits-Int}
use Rattle.tower_inputs.specs.Laws.{HasPlace}
use Rattle.legality_rules.specs.declared.scope.Known.{Known}
use Rattle.legality_rules.specs.Lines.{in_turn as entries_in_turn, statement_listing}
use Rattle.legality_rules.specs.Scopes.{Scope, kinds_in}
use Rattle.loop_meaning.specs.declared.steps.BodyRun.{BodyRun}
use Rattle.loop_meaning.specs.Statements.{Action, block_run, in_turn, is_going, naming, while_going}
use Rattle.loop_meaning.specs.Steps.{body_run, for_each, for_item, inner_runs, with_items}
use Rattle.loop_meaning.specs.Stores.{stored_names}
use Rattle.fitting_inputs.specs.Fitting.{EntryFits, RunFits, Test}
use Rattle.fitting_inputs.proofs.BlockLemmas.{blocks_fit}
use Rattle.fitting_inputs.proofs.FreshNames.{AreTold, IsTold}
use Rattle.fitting_inputs.proofs.HeadScopes.{before_body, inner_known}
use Rattle.fitting_inputs.proofs.StoreLemmas.{AreBound, bound_fit, fit_bound, keeping_bound, keeping_placed, one_bound, placed_still, some_is}

-- a body run whose names of `some` are bound to values that fit, and whose pairs pass the test
pub record StandsFit (test : Test) (some : Scope) (run : BodyRun) : Type 0 where
  pub bound : AreBound run.names some
  pub placed : HasPlace (get run.names)
  pub emitted : list_all test run.emitted ≡ true

-- the action leaves body runs so
pub record KeepsFit (test : Test) (some : Scope) (action : Action) : Type 0 where
  pub fit : (run : BodyRun) → StandsFit test some run → StandsFit test some (action run)

-- an action that is done only where the body run goes on
pub while_stands : (test : Test) (some : Scope) (action : Action) → KeepsFit test some action → (run : BodyRun) → StandsFit test some run → StandsFit test some (while_going action run)
while_stands test some action keeps run s = at (is_going run.flow)
  where
    at : (b : Bool) → StandsFit test some (if b then action run else run)
    at true = keeps.fit run s
    at false = s

-- actions one after another
each_fits : {X : Type 0} (test : Test) (some : Scope) (one : X → Action) → ((x : X) → KeepsFit test some (one x)) → (xs : List X) → KeepsFit test some (in_turn (map one xs))
each_fits test some one h [] = record { fit = λ run s. s }
each_fits test some one h (x ∷ xs) = record { fit = λ run s. (each_fits test some one h xs).fit (while_going (one x) run) (while_stands test some (one x) (h x) run s) }

-- what is done with the items of a range; a fault in the range leaves the names as they are
with_items_fit : (test : Test) (some : Scope) (line : ℕ) (o : Result (List ℤ) EvalStop) (next : List ℤ → Action) → ((items : List ℤ) → KeepsFit test some (next items)) →
    KeepsFit test some (with_items line o next)
with_items_fit test some line (Ok items) next h = h items
with_items_fit test some line (Err stop) next h = record { fit = λ run s. record { bound = s.bound; placed = s.placed; emitted = s.emitted } }

-- a number fits a kind that is Int
int_fits : (known : Known) (item : ℤ) → known.kind ≡ Some kind.Int → (x : ValueKind) → known.kind ≡ Some x → fits x (Int item) ≡ true
int_fits known item int x is = subst (λ y. fits y (Int item) ≡ true) (some_is kind.Int x (sym int ∙ is)) (fits-Int item)

module _ (test : Test) (program : ProgramTree) (lines : AllByRecursion (EntryFits test) (entries_in_turn (map statement_listing program.body) (before_body program)))
    (told : AreTold (kinds_in (before_body program)) (before_body program)) where
  abbrev scope : Scope
  scope = before_body program

  abbrev kinds : Kinds
  kinds = kinds_in scope

  -- a body run, from names that fit all that is in scope before the body
  body_fits : KeepsFit test scope (body_run program)
  body_fits = record {
    fit = λ run s.
        let names = bound_fit scope run.names s.bound in
        let before : RunFits test scope scope run = record { around = names; placed = s.placed; going = λ on. names; emitted = s.emitted } in
        let after = blocks_fit test program.body scope scope run (λ n x is. is) lines before in
        record { bound = fit_bound kinds (block_run program.body run).names scope told after.around; placed = after.placed; emitted = after.emitted };
  }

  -- an item of an inner head binds one name more for the body runs under it
  pub item_stands : (some : Scope) (i : Inner) → AreTold kinds some → IsTold kinds (inner_known i) → (item : ℤ) (run : BodyRun) → StandsFit test some run →
      StandsFit test (inner_known i ∷ some) (naming i.name (Int item) run)
  item_stands some i others here item run s = record {
    bound = one_bound kinds run.names (inner_known i) (Int item) some here (int_fits (inner_known i) item refl) others s.bound;
    placed = placed_still run.names i.name (Int item) here.apart s.placed;
    emitted = s.emitted;
  }

  -- and leaves the names of the store
  pub item_fits : (some : Scope) (i : Inner) (action : Action) → AreTold kinds some → IsTold kinds (inner_known i) → KeepsFit test (inner_known i ∷ some) action → (item : ℤ) →
      KeepsFit test some (for_item program i.name action item)
  item_fits some i action others here under item = record {
    fit = λ run s.
        let done = under.fit (naming i.name (Int item) run) (item_stands some i others here item run s) in
        record {
          bound = keeping_bound (stored_names program) run.names (action (naming i.name (Int item) run)).names some s.bound done.bound.1;
          placed = keeping_placed (stored_names program) run.names (action (naming i.name (Int item) run)).names s.placed done.placed;
          emitted = done.emitted;
        };
  }

  -- The body runs of these inner heads, where `some` with the names of these are all names in scope before the body
  pub heads_fit : (heads : List Inner) (some : Scope) (width : ℕ) → AreTold kinds some → AreTold kinds (map inner_known heads) →
      ((env : Bindings) → AreBound env some → AreBound env (map inner_known heads) → AreBound env scope) → KeepsFit test some (inner_runs program heads width)
  heads_fit [] some width others heads_told all = record {
    fit = λ run s.
        let done = body_fits.fit run (record { bound = all run.names s.bound tt; placed = s.placed; emitted = s.emitted }) in
        record { bound = fit_bound kinds (body_run program run).names some others (bound_fit scope (body_run program run).names done.bound); placed = done.placed; emitted = done.emitted };
  }
  heads_fit (i ∷ heads) some width others heads_told all = record {
    fit = λ run s.
        (with_items_fit test some program.head.line (inner_items i.range (get run.names) width) (λ items. for_each program i.name items (inner_runs program heads (width * length items)))
        (λ items. each_fits test some (for_item program i.name (inner_runs program heads (width * length items)))
        (item_fits some i (inner_runs program heads (width * length items)) others heads_told.0
        (heads_fit heads (inner_known i ∷ some) (width * length items) (heads_told.0, others) heads_told.1 (λ env b c. all env b.1 (b.0, c)))) items)).fit run s;
  }
