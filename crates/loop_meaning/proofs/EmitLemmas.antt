-- How many inputs a body run emits: at most one for each `@reduce` line.
use Rattle.std.proofs.Common.{◌≡◌, ℕ, ◌+◌, ◌≤◌, Bool, true, false, List, [], ◌∷◌, length, map, Ok, Err, refl, ap, sym, subst, length-append, arith}
use Rattle.std.specs.Prelude.{if◌then◌else◌}
use Rattle.loop_data.specs.declared.value.Value.{Value}
use Rattle.loop_data.specs.declared.value.Value.TheVariants.{Nothing}
use Rattle.loop_data.specs.declared.statement.Statement.{Statement, ind-Statement, fold-roll-Statement, map-Statement, roll-Statement}
use Rattle.loop_data.specs.declared.statement.Branch.{Branch, fold-roll-Branch, roll-Branch}
use Rattle.loop_data.specs.declared.statement.Statement.TheOpen.{Statement-F, Statement-F as s, Branch-F}
use Rattle.loop_data.specs.declared.statement.Statement.TheFolds as folds
use Rattle.loop_data.specs.ValueParts.{as_bool}
use Rattle.loop_values.specs.Operations.{Outcome}
use Rattle.loop_values.specs.Values.{Meaning, value_of}
use Rattle.loop_meaning.specs.declared.steps.BodyRun.{BodyRun}
use Rattle.loop_meaning.specs.declared.reducers.Site.{Site}
use Rattle.tower_inputs.specs.Inputs.{input_of}
use Rattle.loop_meaning.specs.Reducers.{all_sites, branch_sites, sites_in, sites_in_branch, sites_step}
use Rattle.loop_meaning.specs.Statements.{Action, Choice, block_run, branch_run, branch_step, emitting, evaluating, first_true, in_turn, is_going, keeping_something, matching, naming, statement_run, statement_step, while_going, with_value}

-- the action emits at most n inputs
pub record Emits (n : ℕ) (action : Action) : Type 0 where
  pub most : (run : BodyRun) → length (action run).emitted ≤ length run.emitted + n

more : (m n : ℕ) (action : Action) → m ≤ n → Emits m action → Emits n action
more m n action le e = record { most = λ run. omega (arith, le, e.most run) }

-- ---- the parts of statements

given_value : (n line : ℕ) (o : Outcome) (next : Value → Action) → ((v : Value) → Emits n (next v)) → Emits n (with_value line o next)
given_value n line (Ok v) next e = e v
given_value n line (Err stop) next e = record { most = λ run. omega arith }

evaluated : (n line : ℕ) (m : Meaning) (next : Value → Action) → ((v : Value) → Emits n (next v)) → Emits n (evaluating line m next)
evaluated n line m next e = record { most = λ run. (given_value n line (m _) next e).most run }

quiet : (action : Action) → ((run : BodyRun) → (action run).emitted ≡ run.emitted) → Emits 0 action
quiet action same = record { most = λ run. omega (arith, ap length (same run)) }

kept : (name : List ℕ) (v : Value) → Emits 0 (keeping_something name v)
kept name Nothing = quiet _ (λ run. refl)
kept name v = quiet _ (λ run. refl)

one_emitted : (name : List ℕ) (v : Value) → Emits 1 (emitting name v)
one_emitted name v = record { most = λ run. omega (arith, length-append run.emitted (record { name = name; input = v } ∷ [])) }

going_at : (n : ℕ) (action : Action) → Emits n action → (run : BodyRun) (b : Bool) → length (if b then action run else run).emitted ≤ length run.emitted + n
going_at n action e run true = e.most run
going_at n action e run false = omega arith

going : (n : ℕ) (action : Action) → Emits n action → Emits n (while_going action)
going n action e = record { most = λ run. going_at n action e run (is_going run.flow) }

chosen : (m n : ℕ) (b : Bool) (block other : Action) → Emits m block → Emits n other → Emits (m + n) (if b then block else other)
chosen m n true block other e f = more m (m + n) block (omega arith) e
chosen m n false block other e f = more n (m + n) other (omega arith) f

-- ---- statements

abbrev IsFew : Statement → Type 0
IsFew x = Emits (length (sites_in x)) (statement_run x)

abbrev IsFewBranch : Branch → Type 0
IsFewBranch b = (n : ℕ) (other : Action) → Emits n other → Emits (length (sites_in_branch b) + n) (branch_run b other)

abbrev Few : Type 0
Few = (x : Statement) × IsFew x

abbrev FewBranch : Type 0
FewBranch = (b : Branch) × IsFewBranch b

abbrev bare : Few → Statement
bare e = e.0

abbrev bare_branch : FewBranch → Branch
bare_branch e = e.0

-- statements one after another
block_few : (block : List Few) → Emits (length (all_sites (map sites_in (map bare block)))) (in_turn (map statement_run (map bare block)))
block_few [] = record { most = λ run. omega arith }
block_few (x ∷ xs) =
    let first = going (length (sites_in x.0)) (statement_run x.0) x.1 in
    let rest = block_few xs in
    record { most = λ run. omega (arith, first.most run, rest.most (while_going (statement_run x.0) run), length-append (sites_in x.0) (all_sites (map sites_in (map bare xs)))) }

-- conditions with their blocks
branches_few : (branches : List FewBranch) (n : ℕ) (other : Action) → Emits n other →
    Emits (length (all_sites (map sites_in_branch (map bare_branch branches))) + n) (first_true (map branch_run (map bare_branch branches)) other)
branches_few [] n other e = more n _ other (omega arith) e
branches_few (b ∷ bs) n other e =
    let m = length (all_sites (map sites_in_branch (map bare_branch bs))) + n in
    let rest = branches_few bs n other e in
    more (length (sites_in_branch b.0) + m) _ _ (omega (arith, length-append (sites_in_branch b.0) (all_sites (map sites_in_branch (map bare_branch bs)))))
    (b.1 m (first_true (map branch_run (map bare_branch bs)) other) rest)

abbrev layer_sites : Statement-F Few FewBranch → List Site
layer_sites y = sites_step (map-Statement Statement Branch (List Site) (List Site) sites_in sites_in_branch (map-Statement Few FewBranch Statement Branch bare bare_branch y))

abbrev layer_run : Statement-F Few FewBranch → Action
layer_run y = statement_step (map-Statement Statement Branch Action Choice statement_run branch_run (map-Statement Few FewBranch Statement Branch bare bare_branch y))

layer_few : (y : Statement-F Few FewBranch) → Emits (length (layer_sites y)) (layer_run y)
layer_few (s.Let line pattern x) = evaluated 0 line (value_of x) (matching pattern) (λ v. quiet _ (λ run. refl))
layer_few (s.Set line name x) = evaluated 0 line (value_of x) (naming name) (λ v. quiet _ (λ run. refl))
layer_few (s.If line branches else_line other end_line) =
    more _ _ _ (omega (arith, length-append (all_sites (map sites_in_branch (map bare_branch branches))) (all_sites (map sites_in (map bare other)))))
    (branches_few branches (length (all_sites (map sites_in (map bare other)))) (in_turn (map statement_run (map bare other))) (block_few other))
layer_few (s.Keep line name x) = evaluated 0 line (value_of x) (keeping_something name) (kept name)
layer_few (s.Reduce line name tower start) = evaluated 1 line (input_of tower) (emitting name) (one_emitted name)
layer_few (s.Continue line) = quiet _ (λ run. refl)
layer_few (s.Break line) = quiet _ (λ run. refl)

abbrev branch_layer_sites : Branch-F Few FewBranch → List Site
branch_layer_sites y = branch_sites (folds.map-Branch Statement Branch (List Site) (List Site) sites_in sites_in_branch (folds.map-Branch Few FewBranch Statement Branch bare bare_branch y))

abbrev branch_layer_run : Branch-F Few FewBranch → Choice
branch_layer_run y = branch_step (folds.map-Branch Statement Branch Action Choice statement_run branch_run (folds.map-Branch Few FewBranch Statement Branch bare bare_branch y))

branch_layer_few : (y : Branch-F Few FewBranch) (n : ℕ) (other : Action) → Emits n other → Emits (length (branch_layer_sites y) + n) (branch_layer_run y other)
branch_layer_few y n other e =
    evaluated _ y.line (value_of y.test) (λ v. if as_bool v then in_turn (map statement_run (map bare y.block)) else other)
    (λ v. chosen (length (all_sites (map sites_in (map bare y.block)))) n (as_bool v) _ other (block_few y.block) e)

abbrev SitesOf : Statement-F Statement Branch → List Site
SitesOf w = sites_step (map-Statement Statement Branch (List Site) (List Site) sites_in sites_in_branch w)

abbrev RunOf : Statement-F Statement Branch → Action
RunOf w = statement_step (map-Statement Statement Branch Action Choice statement_run branch_run w)

abbrev BranchSitesOf : Branch-F Statement Branch → List Site
BranchSitesOf w = branch_sites (folds.map-Branch Statement Branch (List Site) (List Site) sites_in sites_in_branch w)

abbrev BranchRunOf : Branch-F Statement Branch → Choice
BranchRunOf w = branch_step (folds.map-Branch Statement Branch Action Choice statement_run branch_run w)

rolled : (x : Statement-F Statement Branch) → Emits (length (SitesOf x)) (RunOf x) → IsFew (roll-Statement x)
rolled x e =
    subst (λ sites. Emits (length sites) (statement_run (roll-Statement x))) (sym (fold-roll-Statement (List Site) (List Site) sites_step branch_sites x))
    (subst (Emits (length (SitesOf x))) (sym (fold-roll-Statement Action Choice statement_step branch_step x)) e)

rolled_branch : (x : Branch-F Statement Branch) → ((n : ℕ) (other : Action) → Emits n other → Emits (length (BranchSitesOf x) + n) (BranchRunOf x other)) → IsFewBranch (roll-Branch x)
rolled_branch x e n other h =
    subst (λ sites. Emits (length sites + n) (branch_run (roll-Branch x) other)) (sym (fold-roll-Branch (List Site) (List Site) sites_step branch_sites x))
    (subst (λ (choice : Choice). Emits (length (BranchSitesOf x) + n) (choice other)) (sym (fold-roll-Branch Action Choice statement_step branch_step x)) (e n other h))

-- a statement emits at most one input for each `@reduce` line in it
pub statement_few : (x : Statement) → IsFew x
statement_few = ind-Statement IsFew IsFewBranch
    (λ x y is. rolled x (subst (λ w. Emits (length (SitesOf w)) (RunOf w)) is (layer_few y)))
    (λ x y is. rolled_branch x (subst (λ w. (n : ℕ) (other : Action) → Emits n other → Emits (length (BranchSitesOf w) + n) (BranchRunOf w other)) is (branch_layer_few y)))

-- the same of a block
pub block_emits : (block : List Statement) → Emits (length (all_sites (map sites_in block))) (block_run block)
block_emits [] = record { most = λ run. omega arith }
block_emits (x ∷ xs) =
    let first = going (length (sites_in x)) (statement_run x) (statement_few x) in
    let rest = block_emits xs in
    record { most = λ run. omega (arith, first.most run, rest.most (while_going (statement_run x) run), length-append (sites_in x) (all_sites (map sites_in xs))) }
