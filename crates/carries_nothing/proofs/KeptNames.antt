-- What an item of an inner head leaves: the names that were there before it, but for unseen ones.
use Rattle.std.proofs.Common.{◌≡◌, ◌≢◌, ℕ, ◌*◌, Bool, true, false, cond, List, [], ◌∷◌, ◌++◌, length, map, Option, Some, None, Result, Ok, Err, refl, ap, sym, ◌∙◌, ℤ}
use Rattle.std.specs.Prelude.{if◌then◌else◌, not, ◌&&◌, ◌||◌}
use Rattle.std.specs.Str.{bytes_eq}
use Rattle.std.specs.FinMap.{get}
use Rattle.std.proofs.lemmas.List.Folds.{list_any-append}
use Rattle.loop_data.specs.declared.value.Value.{Value}
use Rattle.loop_data.specs.declared.value.Value.TheVariants.{Int}
use Rattle.loop_data.specs.declared.head.Inner.{Inner}
use Rattle.loop_data.specs.declared.statement.Statement.{Statement}
use Rattle.loop_grammar.specs.WellFormed.{is_well_formed}
use Rattle.loop_grammar.specs.declared.tree.ProgramTree.{ProgramTree}
use Rattle.loop_values.specs.declared.stop.EvalStop.{EvalStop}
use Rattle.loop_values.specs.Bindings.{Bindings, place_name}
use Rattle.loop_values.specs.InnerItems.{inner_items}
use Rattle.loop_values.proofs.BindingLaws.{get-other}
use Rattle.loop_values.proofs.EntryLemmas.{same_text}
use Rattle.legality_rules.specs.Offences.{IsLegal}
use Rattle.legality_rules.specs.Rules.{is_assigned, outline_of}
use Rattle.legality_rules.specs.Scopes.{is_in}
use Rattle.loop_meaning.specs.declared.steps.BodyRun.{BodyRun}
use Rattle.loop_meaning.specs.Assigned.{IsNoneOf, all_assigned, assigned_by, assigned_in}
use Rattle.loop_meaning.specs.Statements.{Action, block_run, is_going, naming, statement_run, while_going}
use Rattle.loop_meaning.specs.Steps.{for_each, for_item, inner_runs, with_items}
use Rattle.loop_meaning.specs.Stores.{keeping, names_of, stored_names, with_found}
use Rattle.loop_meaning.proofs.StayLemmas.{Leaves, statement_still}
use Rattle.carries_nothing.specs.Alike.{is_lasting, is_scratch, is_variable}
use Rattle.carries_nothing.specs.Bodies.{KeptUnder, is_unseen}
use Rattle.carries_nothing.specs.Laws.{InnerItemsKeep}
use Rattle.carries_nothing.proofs.LegalLemmas.{lasting_untouched}
use Rattle.carries_nothing.proofs.SameSteps.{found_gives, keeping_others, or_kept}
use Rattle.carries_nothing.proofs.SpelledNames.{place_not_stored}

-- ---- names that are none of others

front : (n : List ℕ) (xs ys : List (List ℕ)) → IsNoneOf n (xs ++ ys) → IsNoneOf n xs
front n [] ys h = tt
front n (x ∷ xs) ys h = (h.0, front n xs ys h.1)

back : (n : List ℕ) (xs ys : List (List ℕ)) → IsNoneOf n (xs ++ ys) → IsNoneOf n ys
back n [] ys h = h
back n (x ∷ xs) ys h = back n xs ys h.1

-- ---- actions that leave the value of a name

while_leaves : (n : List ℕ) (action : Action) → Leaves n action → (run : BodyRun) → get (while_going action run).names n ≡ get run.names n
while_leaves n action e run = at (is_going run.flow)
  where
    at : (b : Bool) → get (if b then action run else run).names n ≡ get run.names n
    at true = e.stays run
    at false = refl

then_leaves : (n : List ℕ) (action further : Action) → Leaves n action → Leaves n further → Leaves n (λ run. further (while_going action run))
then_leaves n action further e f = record { stays = λ run. f.stays (while_going action run) ∙ while_leaves n action e run }

block_leaves : (n : List ℕ) (block : List Statement) → IsNoneOf n (all_assigned (map assigned_in block)) → Leaves n (block_run block)
block_leaves n [] h = record { stays = λ run. refl }
block_leaves n (x ∷ xs) h = then_leaves n (statement_run x) (block_run xs) (statement_still x n (front n (assigned_in x) _ h)) (block_leaves n xs (back n (assigned_in x) _ h))

-- keeping leaves a name whose value is the same on both sides
or_same : (x : Option Value) → or_kept x x ≡ x
or_same (Some v) = refl
or_same None = refl

cond_kept : (b : Bool) (x p : Option Value) → (b ≡ true → x ≡ p) → cond b (or_kept x p) p ≡ p
cond_kept true x p h = ap (λ z. or_kept z p) (h refl) ∙ or_same p
cond_kept false x p h = refl

keeping_same : (ms : List (List ℕ)) (n : List ℕ) (e a : Bindings) → get a n ≡ get e n → get (keeping ms e a) n ≡ get e n
keeping_same [] n e a same = refl
keeping_same (m ∷ ms) n e a same =
    let one : get (with_found e m (get a m)) n ≡ get e n =
    found_gives m n (get a m) e ∙ cond_kept (bytes_eq n m) (get a m) (get e n) (λ is. ap (get a) (sym (same_text n m is)) ∙ same) in
    keeping_same ms n (with_found e m (get a m)) a (same ∙ sym one) ∙ one

-- ---- inner heads

module _ (program : ProgramTree) (n : List ℕ) where
  item_leaves : (name : List ℕ) (action : Action) (item : ℤ) → n ≢ name → Leaves n action → Leaves n (for_item program name action item)
  item_leaves name action item ne e = record {
    stays = λ run.
        keeping_same (stored_names program) n run.names (action (naming name (Int item) run)).names (e.stays (naming name (Int item) run) ∙ get-other run.names name n (Int item) ne);
  }

  each_leaves : (name : List ℕ) (action : Action) → n ≢ name → Leaves n action → (items : List ℤ) → Leaves n (for_each program name items action)
  each_leaves name action ne e [] = record { stays = λ run. refl }
  each_leaves name action ne e (x ∷ xs) = then_leaves n (for_item program name action x) (for_each program name xs action) (item_leaves name action x ne e) (each_leaves name action ne e xs)

  items_leave : (line : ℕ) (o : Result (List ℤ) EvalStop) (next : List ℤ → Action) → ((items : List ℤ) → Leaves n (next items)) → Leaves n (with_items line o next)
  items_leave line (Ok items) next e = e items
  items_leave line (Err stop) next e = record { stays = λ run. refl }

  heads_leave : (heads : List Inner) (width : ℕ) → IsNoneOf n (map (λ (head : Inner). head.name) heads) → IsNoneOf n (all_assigned (map assigned_in program.body)) → Leaves n (inner_runs program heads width)
  heads_leave [] width h body = record { stays = λ run. (block_leaves n program.body body).stays run }
  heads_leave (head ∷ heads) width h body = record {
    stays = λ run.
        (items_leave program.head.line (inner_items head.range (get run.names) width) (λ items. for_each program head.name items (inner_runs program heads (width * length items)))
        (λ items. each_leaves head.name (inner_runs program heads (width * length items)) h.0 (heads_leave heads (width * length items) h.1 body) items)).stays run;
  }

-- ---- what isn't unseen

-- it isn't a name of the store, or it lasts, or it is `place`
seen : (program : ProgramTree) (n : List ℕ) (v s a p : Bool) → is_variable program n ≡ v → is_scratch program n ≡ s → is_assigned (outline_of program) n ≡ a → bytes_eq n place_name ≡ p →
    is_in (stored_names program) n ≡ true → is_unseen program n ≡ false → {P : Type 0} → (bytes_eq n place_name ≡ true → P) → (is_lasting program n ≡ true → P) → P
seen program n v s a true vs ss us ps stored sure placed lasts = placed ps
seen program n true s a false vs ss us ps stored sure placed lasts =
    lasts (ap (λ b. (b || (is_scratch program n && not (is_assigned (outline_of program) n))) && not (bytes_eq n place_name)) vs ∙ ap not ps)
seen program n false true false false vs ss us ps stored sure placed lasts =
    lasts (ap (λ b. (b || (is_scratch program n && not (is_assigned (outline_of program) n))) && not (bytes_eq n place_name)) vs
    ∙ ap (λ b. (b && not (is_assigned (outline_of program) n)) && not (bytes_eq n place_name)) ss
    ∙ ap (λ b. not b && not (bytes_eq n place_name)) us
    ∙ ap not ps)
seen program n false true true false vs ss us ps stored sure placed lasts = absurd (hides (not (is_in (assigned_by program) n || is_in (stored_names program) n)) told)
  where
    told : ((not (is_in (assigned_by program) n || is_in (stored_names program) n) || true) && true) ≡ false
    told =
        sym (ap (λ b. (not (is_in (assigned_by program) n || is_in (stored_names program) n) || (b && is_assigned (outline_of program) n)) && not (bytes_eq n place_name)) ss
        ∙ ap (λ b. (not (is_in (assigned_by program) n || is_in (stored_names program) n) || b) && not (bytes_eq n place_name)) us
        ∙ ap (λ b. (not (is_in (assigned_by program) n || is_in (stored_names program) n) || true) && not b) ps)
        ∙ sure

    hides : (b : Bool) → ((b || true) && true) ≡ false → ⊥
    hides true e = absurd (cc)
    hides false e = absurd (cc)
seen program n false false a false vs ss us ps stored sure placed lasts =
    absurd (let other = list_any-append (bytes_eq n) (names_of program.vars) (names_of program.scratch) ∙ ap (λ b. b || is_in (names_of program.scratch) n) vs ∙ ss in cc)

module _ (program : ProgramTree) (legal : IsLegal program) (spelled : is_well_formed program ≡ true) where
  abbrev outer : List (List ℕ)
  outer = place_name ∷ program.head.names

  abbrev body_names : List (List ℕ)
  body_names = all_assigned (map assigned_in program.body)

  -- a name of the store that isn't unseen is none of those that an inner head or the body binds or assigns
  none_binds : (n : List ℕ) → is_in (stored_names program) n ≡ true → is_unseen program n ≡ false → IsNoneOf n (assigned_by program)
  none_binds n stored sure =
      seen program n (is_variable program n) (is_scratch program n) (is_assigned (outline_of program) n) (bytes_eq n place_name) refl refl refl refl stored sure
      (λ placed. absurd (let isnt = ap (is_in (stored_names program)) (same_text n place_name placed) ∙ place_not_stored program spelled in cc))
      (λ lasts. lasting_untouched program legal n lasts)

  kept_from : (heads : List Inner) → ((n : List ℕ) → is_in (stored_names program) n ≡ true → is_unseen program n ≡ false → IsNoneOf n (map (λ (head : Inner). head.name) heads)) → KeptUnder program heads
  kept_from [] none = tt
  kept_from (head ∷ heads) none = ((λ run width item n sure. at run width item n sure (is_in (stored_names program) n) refl), kept_from heads (λ n stored sure. (none n stored sure).1))
    where
      at : (run : BodyRun) (width : ℕ) (item : ℤ) (n : List ℕ) → is_unseen program n ≡ false → (b : Bool) → is_in (stored_names program) n ≡ b →
          get run.names n ≡ get (for_item program head.name (inner_runs program heads width) item run).names n
      at run width item n sure false isnt = sym (keeping_others (stored_names program) n run.names (inner_runs program heads width (naming head.name (Int item) run)).names isnt)
      at run width item n sure true stored =
          let none_of = none n stored sure in
          let lines = back n (outer ++ map (λ (h : Inner). h.name) program.head.inner) body_names (none_binds n stored sure) in
          sym ((item_leaves program n head.name (inner_runs program heads width) item none_of.0 (heads_leave program n heads width none_of.1 lines)).stays run)

  pub kept : KeptUnder program program.head.inner
  kept = kept_from program.head.inner
      (λ n stored sure. back n outer (map (λ (h : Inner). h.name) program.head.inner)
      (front n (outer ++ map (λ (h : Inner). h.name) program.head.inner) body_names (none_binds n stored sure)))

pub inner_items_keep : InnerItemsKeep
inner_items_keep program legal spelled = kept program legal spelled
