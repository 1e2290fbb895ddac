-- A name that a step neither binds nor assigns keeps its value.
use Rattle.std.proofs.Common.{◌≡◌, ◌≢◌, ℕ, ◌*◌, Bool, true, false, List, [], ◌∷◌, ◌++◌, length, map, Option, Some, None, Result, Ok, Err, refl, ap, sym, ◌∙◌, subst}
use Rattle.std.specs.Prelude.{if◌then◌else◌, ℤ, pos}
use Rattle.std.specs.FinMap.{get, insert}
use Rattle.loop_data.specs.declared.value.Value.{Value}
use Rattle.loop_data.specs.declared.value.Value.TheVariants.{Int, Nothing}
use Rattle.loop_data.specs.declared.head.Inner.{Inner}
use Rattle.loop_data.specs.declared.statement.Statement.{Statement, ind-Statement, fold-roll-Statement, map-Statement, roll-Statement}
use Rattle.loop_data.specs.declared.statement.Branch.{Branch, fold-roll-Branch, roll-Branch}
use Rattle.loop_data.specs.declared.statement.Statement.TheOpen.{Statement-F, Statement-F as s, Branch-F}
use Rattle.loop_data.specs.declared.statement.Statement.TheFolds as folds
use Rattle.loop_grammar.specs.declared.tree.ProgramTree.{ProgramTree}
use Rattle.loop_values.specs.declared.stop.EvalStop.{EvalStop}
use Rattle.loop_values.specs.Bindings.{Bindings, place_name}
use Rattle.loop_values.specs.InnerItems.{inner_items}
use Rattle.loop_data.specs.ValueParts.{as_bool, parts_of}
use Rattle.loop_values.specs.Operations.{Outcome}
use Rattle.loop_values.specs.Values.{Meaning, value_of}
use Rattle.std.specs.Str.{bytes_eq}
use Rattle.loop_values.proofs.BindingLaws.{get-bound, get-other}
use Rattle.loop_values.proofs.EntryLemmas.{same_self, same_text}
use Rattle.loop_meaning.specs.declared.steps.BodyRun.{BodyRun}
use Rattle.loop_meaning.specs.Assigned.{IsNoneOf, OthersStay, all_assigned, assigned_in, assigned_in_branch, assigned_in_branch_step, assigned_step}
use Rattle.tower_inputs.specs.Inputs.{input_of}
use Rattle.loop_meaning.specs.Statements.{Action, Choice, block_run, branch_run, branch_step, emitting, evaluating, first_true, in_turn, is_going, keeping_something, matching, naming, statement_run, statement_step, while_going, with_parts, with_pattern, with_value}
use Rattle.loop_meaning.specs.Steps.{first_run, for_each, for_item, inner_runs, names_for, with_items}
use Rattle.loop_meaning.specs.Stores.{keeping, stored_names, with_found}

abbrev Name : Type 0
Name = List ℕ

-- ---- names that are none of others

front : (n : Name) (xs ys : List Name) → IsNoneOf n (xs ++ ys) → IsNoneOf n xs
front n [] ys h = tt
front n (x ∷ xs) ys h = (h.0, front n xs ys h.1)

back : (n : Name) (xs ys : List Name) → IsNoneOf n (xs ++ ys) → IsNoneOf n ys
back n [] ys h = h
back n (x ∷ xs) ys h = back n xs ys h.1

-- the action leaves the value of the name
pub record Leaves (n : Name) (action : Action) : Type 0 where
  pub stays : (run : BodyRun) → get (action run).names n ≡ get run.names n

quiet : (n : Name) (action : Action) → ((run : BodyRun) → (action run).names ≡ run.names) → Leaves n action
quiet n action same = record { stays = λ run. ap (λ names. get names n) (same run) }

-- ---- the parts of statements

parts_leave : (n : Name) (names : Bindings) (ns : List Name) (vs : List Value) → IsNoneOf n ns → get (with_parts names ns vs) n ≡ get names n
parts_leave n names [] vs h = refl
parts_leave n names (m ∷ ms) [] h = refl
parts_leave n names (m ∷ ms) (v ∷ vs) h = parts_leave n (insert names m v) ms vs h.1 ∙ get-other names m n v h.0

pattern_leaves : (n : Name) (names : Bindings) (ns : List Name) (v : Value) → IsNoneOf n ns → get (with_pattern names ns v) n ≡ get names n
pattern_leaves n names [] v h = refl
pattern_leaves n names (m ∷ []) v h = get-other names m n v h.0
pattern_leaves n names (m ∷ k ∷ ms) v h = parts_leave n names (m ∷ k ∷ ms) (parts_of v) h

naming_leaves : (n m : Name) (v : Value) → n ≢ m → Leaves n (naming m v)
naming_leaves n m v ne = record { stays = λ run. get-other run.names m n v ne }

kept_leaves : (n m : Name) (v : Value) → n ≢ m → Leaves n (keeping_something m v)
kept_leaves n m Nothing ne = quiet n _ (λ run. refl)
kept_leaves n m v ne = naming_leaves n m v ne

given_value : (n : Name) (line : ℕ) (o : Outcome) (next : Value → Action) → ((v : Value) → Leaves n (next v)) → Leaves n (with_value line o next)
given_value n line (Ok v) next e = e v
given_value n line (Err stop) next e = quiet n _ (λ run. refl)

evaluated : (n : Name) (line : ℕ) (m : Meaning) (next : Value → Action) → ((v : Value) → Leaves n (next v)) → Leaves n (evaluating line m next)
evaluated n line m next e = record { stays = λ run. (given_value n line (m _) next e).stays run }

going_at : (n : Name) (action : Action) → Leaves n action → (run : BodyRun) (b : Bool) → get (if b then action run else run).names n ≡ get run.names n
going_at n action e run true = e.stays run
going_at n action e run false = refl

going : (n : Name) (action : Action) → Leaves n action → Leaves n (while_going action)
going n action e = record { stays = λ run. going_at n action e run (is_going run.flow) }

then_ : (n : Name) (action further : Action) → Leaves n action → Leaves n further → Leaves n (λ run. further (while_going action run))
then_ n action further e f = record { stays = λ run. f.stays (while_going action run) ∙ (going n action e).stays run }

chosen : (n : Name) (b : Bool) (block other : Action) → Leaves n block → Leaves n other → Leaves n (if b then block else other)
chosen n true block other e f = e
chosen n false block other e f = f

-- ---- statements

abbrev IsStill : Statement → Type 0
IsStill x = (n : Name) → IsNoneOf n (assigned_in x) → Leaves n (statement_run x)

abbrev IsStillBranch : Branch → Type 0
IsStillBranch b = (n : Name) (other : Action) → IsNoneOf n (assigned_in_branch b) → Leaves n other → Leaves n (branch_run b other)

abbrev Such : Type 0
Such = (x : Statement) × IsStill x

abbrev SuchBranch : Type 0
SuchBranch = (b : Branch) × IsStillBranch b

abbrev bare : Such → Statement
bare e = e.0

abbrev bare_branch : SuchBranch → Branch
bare_branch e = e.0

block_still : (n : Name) (block : List Such) → IsNoneOf n (all_assigned (map assigned_in (map bare block))) → Leaves n (in_turn (map statement_run (map bare block)))
block_still n [] h = quiet n _ (λ run. refl)
block_still n (x ∷ xs) h = then_ n (statement_run x.0) (in_turn (map statement_run (map bare xs))) (x.1 n (front n _ _ h)) (block_still n xs (back n (assigned_in x.0) _ h))

branches_still : (n : Name) (branches : List SuchBranch) (other : Action) → IsNoneOf n (all_assigned (map assigned_in_branch (map bare_branch branches))) → Leaves n other →
    Leaves n (first_true (map branch_run (map bare_branch branches)) other)
branches_still n [] other h e = e
branches_still n (b ∷ bs) other h e = b.1 n (first_true (map branch_run (map bare_branch bs)) other) (front n _ _ h) (branches_still n bs other (back n (assigned_in_branch b.0) _ h) e)

abbrev NamesOf : Statement-F Statement Branch → List Name
NamesOf w = assigned_step (map-Statement Statement Branch (List Name) (List Name) assigned_in assigned_in_branch w)

abbrev RunOf : Statement-F Statement Branch → Action
RunOf w = statement_step (map-Statement Statement Branch Action Choice statement_run branch_run w)

abbrev BranchNamesOf : Branch-F Statement Branch → List Name
BranchNamesOf w = assigned_in_branch_step (folds.map-Branch Statement Branch (List Name) (List Name) assigned_in assigned_in_branch w)

abbrev BranchRunOf : Branch-F Statement Branch → Choice
BranchRunOf w = branch_step (folds.map-Branch Statement Branch Action Choice statement_run branch_run w)

abbrev bared : Statement-F Such SuchBranch → Statement-F Statement Branch
bared y = map-Statement Such SuchBranch Statement Branch bare bare_branch y

abbrev bared_branch : Branch-F Such SuchBranch → Branch-F Statement Branch
bared_branch y = folds.map-Branch Such SuchBranch Statement Branch bare bare_branch y

layer_still : (y : Statement-F Such SuchBranch) (n : Name) → IsNoneOf n (NamesOf (bared y)) → Leaves n (RunOf (bared y))
layer_still (s.Let line pattern x) n h = evaluated n line (value_of x) (matching pattern) (λ v. record { stays = λ run. pattern_leaves n run.names pattern v h })
layer_still (s.Set line name x) n h = evaluated n line (value_of x) (naming name) (λ v. naming_leaves n name v h.0)
layer_still (s.If line branches else_line other end_line) n h =
    branches_still n branches (in_turn (map statement_run (map bare other))) (front n _ _ h) (block_still n other (back n (all_assigned (map assigned_in_branch (map bare_branch branches))) _ h))
layer_still (s.Keep line name x) n h = evaluated n line (value_of x) (keeping_something name) (λ v. kept_leaves n name v h.0)
layer_still (s.Reduce line name tower start) n h = evaluated n line (input_of tower) (emitting name) (λ v. quiet n _ (λ run. refl))
layer_still (s.Continue line) n h = quiet n _ (λ run. refl)
layer_still (s.Break line) n h = quiet n _ (λ run. refl)

branch_layer_still : (y : Branch-F Such SuchBranch) (n : Name) (other : Action) → IsNoneOf n (BranchNamesOf (bared_branch y)) → Leaves n other → Leaves n (BranchRunOf (bared_branch y) other)
branch_layer_still y n other h e =
    evaluated n y.line (value_of y.test) (λ v. if as_bool v then in_turn (map statement_run (map bare y.block)) else other)
    (λ v. chosen n (as_bool v) _ other (block_still n y.block h) e)

rolled : (x : Statement-F Statement Branch) → ((n : Name) → IsNoneOf n (NamesOf x) → Leaves n (RunOf x)) → IsStill (roll-Statement x)
rolled x e n h =
    subst (Leaves n) (sym (fold-roll-Statement Action Choice statement_step branch_step x))
    (e n (subst (IsNoneOf n) (fold-roll-Statement (List Name) (List Name) assigned_step assigned_in_branch_step x) h))

rolled_branch : (x : Branch-F Statement Branch) → ((n : Name) (other : Action) → IsNoneOf n (BranchNamesOf x) → Leaves n other → Leaves n (BranchRunOf x other)) → IsStillBranch (roll-Branch x)
rolled_branch x e n other h k =
    subst (λ (choice : Choice). Leaves n (choice other)) (sym (fold-roll-Branch Action Choice statement_step branch_step x))
    (e n other (subst (IsNoneOf n) (fold-roll-Branch (List Name) (List Name) assigned_step assigned_in_branch_step x) h) k)

pub statement_still : (x : Statement) → IsStill x
statement_still = ind-Statement IsStill IsStillBranch
    (λ x y is. rolled x (subst (λ w. (n : Name) → IsNoneOf n (NamesOf w) → Leaves n (RunOf w)) is (layer_still y)))
    (λ x y is. rolled_branch x (subst (λ w. (n : Name) (other : Action) → IsNoneOf n (BranchNamesOf w) → Leaves n other → Leaves n (BranchRunOf w other)) is (branch_layer_still y)))

body_still : (n : Name) (block : List Statement) → IsNoneOf n (all_assigned (map assigned_in block)) → Leaves n (block_run block)
body_still n [] h = quiet n _ (λ run. refl)
body_still n (x ∷ xs) h = then_ n (statement_run x) (block_run xs) (statement_still x n (front n _ _ h)) (body_still n xs (back n (assigned_in x) _ h))

-- ---- inner heads

-- keeping leaves a name whose value is the same on both sides
other_text : (n m : Name) → bytes_eq n m ≡ false → n ≢ m
other_text n m e is = absurd (cc (e, ap (bytes_eq n) (sym is) ∙ same_self n))

found_at : (n m : Name) (before after : Bindings) (w : Value) (b : Bool) → bytes_eq n m ≡ b → get after n ≡ get before n → get after m ≡ Some w → get (insert before m w) n ≡ get before n
found_at n m before after w true e same is =
    let one : n ≡ m = same_text n m e in
    ap (get (insert before m w)) one ∙ get-bound before m w ∙ sym is ∙ ap (get after) (sym one) ∙ same
found_at n m before after w false e same is = get-other before m n w (other_text n m e)

found_leaves : (n m : Name) (before after : Bindings) (v : Option Value) → get after m ≡ v → get after n ≡ get before n → get (with_found before m v) n ≡ get before n
found_leaves n m before after (Some w) is same = found_at n m before after w (bytes_eq n m) refl same is
found_leaves n m before after None is same = refl

keeping_leaves : (n : Name) (ms : List Name) (before after : Bindings) → get after n ≡ get before n → get (keeping ms before after) n ≡ get before n
keeping_leaves n [] before after same = refl
keeping_leaves n (m ∷ ms) before after same =
    let one = found_leaves n m before after (get after m) refl same in
    keeping_leaves n ms (with_found before m (get after m)) after (same ∙ sym one) ∙ one

module _ (program : ProgramTree) (n : Name) where
  item_leaves : (name : Name) (action : Action) (item : ℤ) → n ≢ name → Leaves n action → Leaves n (for_item program name action item)
  item_leaves name action item ne e = record {
    stays = λ run.
        keeping_leaves n (stored_names program) run.names (action (naming name (Int item) run)).names (e.stays (naming name (Int item) run) ∙ get-other run.names name n (Int item) ne);
  }

  each_leaves : (name : Name) (action : Action) → n ≢ name → Leaves n action → (items : List ℤ) → Leaves n (for_each program name items action)
  each_leaves name action ne e [] = quiet n _ (λ run. refl)
  each_leaves name action ne e (x ∷ xs) = then_ n (for_item program name action x) (for_each program name xs action) (item_leaves name action x ne e) (each_leaves name action ne e xs)

  items_leave : (line : ℕ) (o : Result (List ℤ) EvalStop) (next : List ℤ → Action) → ((items : List ℤ) → Leaves n (next items)) → Leaves n (with_items line o next)
  items_leave line (Ok items) next e = e items
  items_leave line (Err stop) next e = quiet n _ (λ run. refl)

  heads_leave : (heads : List Inner) (width : ℕ) → IsNoneOf n (map (λ (head : Inner). head.name) heads) → IsNoneOf n (all_assigned (map assigned_in program.body)) → Leaves n (inner_runs program heads width)
  heads_leave [] width h body = record { stays = λ run. (body_still n program.body body).stays run }
  heads_leave (head ∷ heads) width h body = record {
    stays = λ run.
        (items_leave program.head.line (inner_items head.range (get run.names) width) (λ items. for_each program head.name items (inner_runs program heads (width * length items)))
        (λ items. each_leaves head.name (inner_runs program heads (width * length items)) h.0 (heads_leave heads (width * length items) h.1 body) items)).stays run;
  }

pub others_stay : OthersStay
others_stay program store item place n h =
    let heads = map (λ (head : Inner). head.name) program.head.inner in
    let body = all_assigned (map assigned_in program.body) in
    let own = front n (place_name ∷ program.head.names) heads (front n ((place_name ∷ program.head.names) ++ heads) body h) in
    let inner = back n (place_name ∷ program.head.names) heads (front n ((place_name ∷ program.head.names) ++ heads) body h) in
    let lines = back n ((place_name ∷ program.head.names) ++ heads) body h in
    let names = names_for program store item place in
    let run = inner_runs program program.head.inner 1 (first_run names) in
    keeping_leaves n (stored_names program) store run.names
    ((heads_leave program n program.head.inner 1 inner lines).stays (first_run names)
    ∙ pattern_leaves n (insert store place_name (Int (pos place))) program.head.names item own.1
    ∙ get-other store place_name n (Int (pos place)) own.0)
