-- The walk over a program, one layer of a statement at a time.
use Rattle.std.proofs.Common.{◌≡◌, ℕ, Bool, true, List, Option, Ok, rules, map}
use Rattle.loop_data.specs.declared.value.Value.{Value}
use Rattle.loop_data.specs.declared.expr.Expr.{Expr}
use Rattle.loop_data.specs.declared.tower.TowerExpr.{TowerExpr}
use Rattle.loop_data.specs.declared.statement.Statement.{Statement, the_lemmas as statement_lemmas}
use Rattle.loop_data.specs.declared.statement.Statement.TheVariants as s
use Rattle.loop_data.specs.declared.statement.Branch.{Branch}
use Rattle.legality_lines.specs.declared.state.State.{State}
use Rattle.legality_names.specs.Answers.{and_then}
use Rattle.legality_lines.specs.LineChecks.{condition_checked, keep_checked, let_checked, set_checked}
use Rattle.legality_lines.specs.ReduceChecks.{reduce_checked}
use Rattle.legality_lines.specs.Walks.{branch_checked, branches_checked, inside_checked, statement_checked}

module _ (reducers : List (List ℕ)) (state : State) (line : ℕ) where
  pub checked-Let : (ns : List (List ℕ)) (x : Expr) → statement_checked reducers (s.Let line ns x) state ≡ let_checked reducers line ns x state
  checked-Let ns x = search (rules, statement_lemmas)

  pub checked-Set : (n : List ℕ) (x : Expr) → statement_checked reducers (s.Set line n x) state ≡ set_checked reducers line n x state
  checked-Set n x = search (rules, statement_lemmas)

  pub checked-Keep : (n : List ℕ) (x : Expr) → statement_checked reducers (s.Keep line n x) state ≡ keep_checked reducers line n x state
  checked-Keep n x = search (rules, statement_lemmas)

  pub checked-Reduce : (n : List ℕ) (tower : TowerExpr) (start : Option Value) →
      statement_checked reducers (s.Reduce line n tower start) state ≡ reduce_checked reducers line n tower start state
  checked-Reduce n tower start = search (rules, statement_lemmas)

  pub checked-Continue : statement_checked reducers (s.Continue line) state ≡ Ok state
  checked-Continue = search (rules, statement_lemmas)

  pub checked-Break : statement_checked reducers (s.Break line) state ≡ Ok state
  checked-Break = search (rules, statement_lemmas)

  pub checked-If : (branches : List Branch) (else_line : ℕ) (other : List Statement) (end_line : ℕ) →
      statement_checked reducers (s.If line branches else_line other end_line) state
      ≡ and_then (branches_checked (map (branch_checked reducers) branches) true state) (inside_checked (map (statement_checked reducers) other))
  checked-If branches else_line other end_line = search (rules, statement_lemmas)

pub checked-branch : (reducers : List (List ℕ)) (b : Branch) (first : Bool) (state : State) →
    branch_checked reducers b first state ≡ and_then (condition_checked reducers first b.line b.test state) (λ _. inside_checked (map (statement_checked reducers) b.block) state)
checked-branch reducers b first state = search (rules, statement_lemmas)
