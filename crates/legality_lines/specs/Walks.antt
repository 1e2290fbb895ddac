-- What the walk over a program answers, told its reducers: all rules but the fourth, line by line. Internal.
-- Source: this project's language.
use Rattle.std.specs.Prelude.{ℕ, Bool, true, false, List, [], ◌∷◌, map, length, Result, Ok}
use Rattle.loop_data.specs.declared.head.Binding.{Binding}
use Rattle.loop_data.specs.declared.head.PrintLine.{PrintLine}
use Rattle.loop_data.specs.declared.statement.Statement.{Statement}
use Rattle.loop_data.specs.declared.statement.Branch.{Branch}
use Rattle.loop_data.specs.declared.statement.Statement.TheOpen.{Statement-F, Statement-F as s, Branch-F}
use Rattle.loop_data.specs.declared.statement.Statement.TheFolds.{fold-Statement, fold-Branch}
use Rattle.loop_grammar.specs.declared.tree.ProgramTree.{ProgramTree}
use Rattle.legality_rules.specs.declared.refusal.LegalRefusal.{LegalRefusal}
use Rattle.legality_rules.specs.declared.scope.Sort.{Sort}
use Rattle.legality_rules.specs.declared.scope.Sort.TheVariants.{Scratch, Variable}
use Rattle.legality_lines.specs.declared.state.State.{State}
use Rattle.legality_names.specs.Answers.{and_then}
use Rattle.legality_lines.specs.LineChecks.{Checked, binding_checked, condition_checked, keep_checked, let_checked}
use Rattle.legality_lines.specs.LineChecks.{print_checked, set_checked}
use Rattle.legality_lines.specs.ReduceChecks.{reduce_checked}
use Rattle.legality_lines.specs.HeadChecks.{head_checked}
use Rattle.legality_lines.specs.States.{leaving, start}

-- a check of something, told the state before it
abbrev pub Check : Type 0
Check = State → Checked

-- a check of a condition with its block, told whether it is the first
abbrev pub BranchCheck : Type 0
BranchCheck = Bool → Check

abbrev pub block_checked : List Check → Check
block_checked [] state = Ok state
block_checked (check ∷ checks) state = and_then (check state) (block_checked checks)

-- a block, after which the names that it binds are no longer in scope
abbrev pub inside_checked : List Check → Check
inside_checked checks state = and_then (block_checked checks state) (λ after. Ok (leaving (length state.scope) after))

abbrev pub branches_checked : List BranchCheck → BranchCheck
branches_checked [] first state = Ok state
branches_checked (check ∷ checks) first state = and_then (check first state) (branches_checked checks false)

abbrev pub branch_step : List (List ℕ) → Branch-F Check BranchCheck → BranchCheck
branch_step reducers b first state =
    and_then (condition_checked reducers first b.line b.test state) (λ _. inside_checked b.block state)

abbrev pub statement_step : List (List ℕ) → Statement-F Check BranchCheck → Check
statement_step reducers (s.Let line names x) state = let_checked reducers line names x state
statement_step reducers (s.Set line n x) state = set_checked reducers line n x state
statement_step reducers (s.If line branches else_line other end_line) state =
    and_then (branches_checked branches true state) (inside_checked other)
statement_step reducers (s.Keep line n x) state = keep_checked reducers line n x state
statement_step reducers (s.Reduce line n tower start) state = reduce_checked reducers line n tower start state
statement_step reducers (s.Continue line) state = Ok state
statement_step reducers (s.Break line) state = Ok state

abbrev pub statement_checked : List (List ℕ) → Statement → Check
statement_checked reducers = fold-Statement Check BranchCheck (statement_step reducers) (branch_step reducers)

abbrev pub branch_checked : List (List ℕ) → Branch → BranchCheck
branch_checked reducers = fold-Branch Check BranchCheck (statement_step reducers) (branch_step reducers)

abbrev pub bindings_checked : Sort → List Binding → Check
bindings_checked sort [] state = Ok state
bindings_checked sort (b ∷ bs) state = and_then (binding_checked sort b state) (bindings_checked sort bs)

abbrev pub prints_checked : List (List ℕ) → List PrintLine → Result (Unit {0}) LegalRefusal
prints_checked reducers [] = Ok tt
prints_checked reducers (p ∷ ps) = and_then (print_checked reducers p) (λ _. prints_checked reducers ps)

abbrev pub program_checked : List (List ℕ) → ProgramTree → Result (Unit {0}) LegalRefusal
program_checked reducers p =
    and_then (bindings_checked Variable p.vars start) (λ vars.
    and_then (head_checked reducers p.head vars) (λ head.
    and_then (bindings_checked Scratch p.scratch head) (λ scratch.
    and_then (block_checked (map (statement_checked reducers) p.body) scratch) (λ _. prints_checked reducers p.prints))))
