-- Definitions over trees, one layer at a time.
use Rattle.std.proofs.Common.{◌≡◌, ℕ, List, [], ◌∷◌, ◌++◌, Option, Some, Ok, rules, map}
use Rattle.std.specs.Prelude.{codes}
use Rattle.std.specs.Option.{option_and_then}
use Rattle.loop_data.specs.declared.value.Value.{Value}
use Rattle.loop_data.specs.declared.value.ValueKind.{ValueKind, out-ValueKind, the_lemmas as value_lemmas}
use Rattle.loop_data.specs.declared.value.ValueKind.TheOpen.{ValueKind-F as k}
use Rattle.loop_data.specs.declared.value.ValueKind.TheVariants as v
use Rattle.loop_data.specs.declared.expr.Op.{Op}
use Rattle.loop_data.specs.declared.expr.Word.{Word}
use Rattle.loop_data.specs.declared.expr.Expr.{Expr, the_lemmas as expr_lemmas}
use Rattle.loop_data.specs.declared.expr.Expr.TheVariants as e
use Rattle.loop_data.specs.declared.tower.Kind.{Kind, out-Kind, the_lemmas as kind_lemmas}
use Rattle.loop_data.specs.declared.tower.Kind.TheVariants as kind
use Rattle.loop_data.specs.declared.tower.Kind.TheOpen.{Kind-F as t}
use Rattle.loop_data.specs.declared.tower.TowerExpr.{TowerExpr, the_lemmas as tower_lemmas}
use Rattle.loop_data.specs.declared.tower.TowerExpr.TheVariants as w
use Rattle.loop_data.specs.declared.statement.Statement.{Statement, the_lemmas as statement_lemmas}
use Rattle.loop_data.specs.declared.statement.Statement.TheVariants as s
use Rattle.loop_data.specs.declared.statement.Branch.{Branch}
use Rattle.loop_data.specs.declared.head.Axis.{the_lemmas as axis_lemmas}
use Rattle.loop_values.specs.Kinds.{Kinds, is_int, is_bool, is_text, kind_of, same_kind, same_at as kind_at, known, literal_kind, and_then, kind_if, two_kind, call_kind, part_kinds}
use Rattle.loop_values.specs.NamesIn.{names_read}
use Rattle.tower_inputs.specs.Towers.{kind_of_tower as tower_of, same_tower, same_at, names_read_in_tower as tower_names}
use Rattle.tower_inputs.specs.InputKinds.{both_kinds, kind_that, kinds_of_input, takes}
use Rattle.legality_rules.specs.declared.scope.Sort.TheVariants.{Local}
use Rattle.legality_rules.specs.Scopes.{Scope, known_as, kinds_in, found, pattern_known, unwrapped}
use Rattle.legality_rules.specs.Lines.{in_turn, one_entry, branches_in_turn, first_name, statement_listing, branch_listing, let_line, set_line, keep_line, reduce_line, condition}
use Rattle.legality_rules.specs.Paths.{Path, assigns, going, ending, after, paths_in_turn, line_reads, paths_of_one, statement_paths, branch_paths}

module _ (names : Kinds) where
  pub kind_of-Lit : (x : Value) → kind_of (e.Lit x) names ≡ literal_kind x
  kind_of-Lit x = search (rules, expr_lemmas)

  pub kind_of-Name : (n : List ℕ) → kind_of (e.Name n) names ≡ known (names n)
  kind_of-Name n = search (rules, expr_lemmas)

  pub kind_of-Place : kind_of e.Place names ≡ Ok v.Int
  kind_of-Place = search (rules, expr_lemmas)

  pub kind_of-Neg : (x : Expr) → kind_of (e.Neg x) names ≡ and_then (kind_of x names) (λ k. kind_if (is_int k) v.Int)
  kind_of-Neg x = search (rules, expr_lemmas)

  pub kind_of-Two : (o : Op) (x y : Expr) → kind_of (e.Two o x y) names ≡ and_then (kind_of x names) (λ k. and_then (kind_of y names) (two_kind o k))
  kind_of-Two o x y = search (rules, expr_lemmas)

  pub kind_of-Call : (w : Word) (x : Expr) → kind_of (e.Call w x) names ≡ and_then (kind_of x names) (call_kind w)
  kind_of-Call w x = search (rules, expr_lemmas)

  pub kind_of-Not : (x : Expr) → kind_of (e.Not x) names ≡ and_then (kind_of x names) (λ k. kind_if (is_bool k) v.Bool)
  kind_of-Not x = search (rules, expr_lemmas)

  pub kind_of-Tuple : (xs : List Expr) → kind_of (e.Tuple xs) names ≡ part_kinds [] (map kind_of xs) names
  kind_of-Tuple xs = search (rules, expr_lemmas)

  pub kinds_of_input-Leaf : (leaf : Kind) (x : Expr) → kinds_of_input (w.Leaf leaf x) names ≡ kind_that (takes leaf) (kind_of x names)
  kinds_of_input-Leaf leaf x = search (rules, tower_lemmas)

  pub kinds_of_input-Count : kinds_of_input w.Count names ≡ Ok []
  kinds_of_input-Count = search (rules, tower_lemmas)

  pub kinds_of_input-Grouped : (key : Expr) (inner : TowerExpr) → kinds_of_input (w.Grouped key inner) names ≡ both_kinds (kind_that is_text (kind_of key names)) (kinds_of_input inner names)
  kinds_of_input-Grouped key inner = search (rules, tower_lemmas)

  pub kinds_of_input-Both : (l r : TowerExpr) → kinds_of_input (w.Both l r) names ≡ both_kinds (kinds_of_input l names) (kinds_of_input r names)
  kinds_of_input-Both l r = search (rules, tower_lemmas)

-- ---- one kind

pub same_kind-Int : (y : ValueKind) → same_kind v.Int y ≡ kind_at k.Int (out-ValueKind y)
same_kind-Int y = search (rules, value_lemmas)

pub same_kind-Bool : (y : ValueKind) → same_kind v.Bool y ≡ kind_at k.Bool (out-ValueKind y)
same_kind-Bool y = search (rules, value_lemmas)

pub same_kind-Text : (y : ValueKind) → same_kind v.Text y ≡ kind_at k.Text (out-ValueKind y)
same_kind-Text y = search (rules, value_lemmas)

pub same_kind-Tuple : (xs : List ValueKind) (y : ValueKind) → same_kind (v.Tuple xs) y ≡ kind_at (k.Tuple (map same_kind xs)) (out-ValueKind y)
same_kind-Tuple xs y = search (rules, value_lemmas)

pub same_kind-Maybe : (x y : ValueKind) → same_kind (v.Maybe x) y ≡ kind_at (k.Maybe (same_kind x)) (out-ValueKind y)
same_kind-Maybe x y = search (rules, value_lemmas)

module _ (other : Kind) where
  pub same_tower-Sum : same_tower kind.Sum other ≡ same_at t.Sum (out-Kind other)
  same_tower-Sum = search (rules, kind_lemmas)

  pub same_tower-Prod : same_tower kind.Prod other ≡ same_at t.Prod (out-Kind other)
  same_tower-Prod = search (rules, kind_lemmas)

  pub same_tower-Count : same_tower kind.Count other ≡ same_at t.Count (out-Kind other)
  same_tower-Count = search (rules, kind_lemmas)

  pub same_tower-Least : same_tower kind.Least other ≡ same_at t.Least (out-Kind other)
  same_tower-Least = search (rules, kind_lemmas)

  pub same_tower-Greatest : same_tower kind.Greatest other ≡ same_at t.Greatest (out-Kind other)
  same_tower-Greatest = search (rules, kind_lemmas)

  pub same_tower-LeastAt : same_tower kind.LeastAt other ≡ same_at t.LeastAt (out-Kind other)
  same_tower-LeastAt = search (rules, kind_lemmas)

  pub same_tower-GreatestAt : same_tower kind.GreatestAt other ≡ same_at t.GreatestAt (out-Kind other)
  same_tower-GreatestAt = search (rules, kind_lemmas)

  pub same_tower-First : same_tower kind.First other ≡ same_at t.First (out-Kind other)
  same_tower-First = search (rules, kind_lemmas)

  pub same_tower-Last : same_tower kind.Last other ≡ same_at t.Last (out-Kind other)
  same_tower-Last = search (rules, kind_lemmas)

  pub same_tower-Any : same_tower kind.Any other ≡ same_at t.Any (out-Kind other)
  same_tower-Any = search (rules, kind_lemmas)

  pub same_tower-All : same_tower kind.All other ≡ same_at t.All (out-Kind other)
  same_tower-All = search (rules, kind_lemmas)

  pub same_tower-Listed : same_tower kind.Listed other ≡ same_at t.Listed (out-Kind other)
  same_tower-Listed = search (rules, kind_lemmas)

  pub same_tower-Grouped : (x : Kind) → same_tower (kind.Grouped x) other ≡ same_at (t.Grouped (same_tower x)) (out-Kind other)
  same_tower-Grouped x = search (rules, kind_lemmas)

-- ---- the entries of a statement

module _ (scope : Scope) (line : ℕ) where
  pub listing-Let : (ns : List (List ℕ)) (x : Expr) → statement_listing (s.Let line ns x) scope ≡ one_entry line (first_name ns) (let_line ns x) (pattern_known Local ns (found (kind_of x (kinds_in scope)))) scope
  listing-Let ns x = search (rules, statement_lemmas, axis_lemmas)

  pub listing-Set : (n : List ℕ) (x : Expr) → statement_listing (s.Set line n x) scope ≡ one_entry line n (set_line n x) [] scope
  listing-Set n x = search (rules, statement_lemmas, axis_lemmas)

  pub listing-Keep : (n : List ℕ) (x : Expr) → statement_listing (s.Keep line n x) scope ≡ one_entry line n (keep_line n x) (known_as Local n (option_and_then unwrapped (found (kind_of x (kinds_in scope)))) ∷ []) scope
  listing-Keep n x = search (rules, statement_lemmas, axis_lemmas)

  pub listing-Reduce : (n : List ℕ) (tower : TowerExpr) (start : Option Value) → statement_listing (s.Reduce line n tower start) scope ≡ one_entry line n (reduce_line n tower start) [] scope
  listing-Reduce n tower start = search (rules, statement_lemmas, axis_lemmas)

  pub listing-Continue : statement_listing (s.Continue line) scope ≡ record { entries = []; scope = scope }
  listing-Continue = search (rules, statement_lemmas, axis_lemmas)

  pub listing-Break : statement_listing (s.Break line) scope ≡ record { entries = []; scope = scope }
  listing-Break = search (rules, statement_lemmas, axis_lemmas)

  pub listing-If : (branches : List Branch) (else_line : ℕ) (other : List Statement) (end_line : ℕ) →
      statement_listing (s.If line branches else_line other end_line) scope
      ≡ record { entries = branches_in_turn (codes "if") (map branch_listing branches) scope ++ in_turn (map statement_listing other) scope; scope = scope }
  listing-If branches else_line other end_line = search (rules, statement_lemmas, axis_lemmas)

pub listing-branch : (b : Branch) (word : List ℕ) (scope : Scope) →
    branch_listing b word scope ≡ record { line = b.line; called = word; scope = scope; says = condition b.test } ∷ in_turn (map statement_listing b.block) scope
listing-branch b word scope = search (rules, statement_lemmas, axis_lemmas)

-- ---- the paths of a statement

module _ (line : ℕ) where
  pub paths-Let : (ns : List (List ℕ)) (x : Expr) → statement_paths (s.Let line ns x) ≡ going (line_reads line (names_read x)) ∷ []
  paths-Let ns x = search (rules, statement_lemmas, axis_lemmas)

  pub paths-Set : (n : List ℕ) (x : Expr) → statement_paths (s.Set line n x) ≡ going (line_reads line (names_read x) ++ assigns n ∷ []) ∷ []
  paths-Set n x = search (rules, statement_lemmas, axis_lemmas)

  pub paths-Keep : (n : List ℕ) (x : Expr) → statement_paths (s.Keep line n x) ≡ going (line_reads line (names_read x)) ∷ ending (line_reads line (names_read x)) ∷ []
  paths-Keep n x = search (rules, statement_lemmas, axis_lemmas)

  pub paths-Reduce : (n : List ℕ) (tower : TowerExpr) (start : Option Value) → statement_paths (s.Reduce line n tower start) ≡ going (line_reads line (tower_names tower)) ∷ []
  paths-Reduce n tower start = search (rules, statement_lemmas, axis_lemmas)

  pub paths-Continue : statement_paths (s.Continue line) ≡ ending [] ∷ []
  paths-Continue = search (rules, statement_lemmas, axis_lemmas)

  pub paths-Break : statement_paths (s.Break line) ≡ ending [] ∷ []
  paths-Break = search (rules, statement_lemmas, axis_lemmas)

  pub paths-If : (branches : List Branch) (else_line : ℕ) (other : List Statement) (end_line : ℕ) →
      statement_paths (s.If line branches else_line other end_line) ≡ paths_of_one (map branch_paths branches) (paths_in_turn (map statement_paths other))
  paths-If branches else_line other end_line = search (rules, statement_lemmas, axis_lemmas)

pub paths-branch : (b : Branch) (other : List Path) →
    branch_paths b other ≡ map (after (line_reads b.line (names_read b.test))) (paths_in_turn (map statement_paths b.block) ++ other)
paths-branch b other = search (rules, statement_lemmas, axis_lemmas)

-- a group of a tower of one expression
pub tower_of-group : (key : Expr) (leaf : Kind) (x : Expr) → tower_of (w.Grouped key (w.Leaf leaf x)) ≡ kind.Grouped leaf
tower_of-group key leaf x = search (rules, tower_lemmas)

pub tower_of-group-count : (key : Expr) → tower_of (w.Grouped key w.Count) ≡ kind.Grouped kind.Count
tower_of-group-count key = search (rules, tower_lemmas)

-- each definition over a tree, one layer at a time
pub ruleset layers = (kind_of-Lit, kind_of-Name, kind_of-Place, kind_of-Neg, kind_of-Not, kind_of-Two, kind_of-Call, kind_of-Tuple, kinds_of_input-Leaf, kinds_of_input-Count, kinds_of_input-Grouped, kinds_of_input-Both, same_kind-Int, same_kind-Bool, same_kind-Text, same_kind-Tuple, same_kind-Maybe, same_tower-Sum, same_tower-Prod, same_tower-Count, same_tower-Least, same_tower-Greatest, same_tower-LeastAt, same_tower-GreatestAt, same_tower-First, same_tower-Last, same_tower-Any, same_tower-All, same_tower-Listed, same_tower-Grouped, listing-Let, listing-Set, listing-Keep, listing-Reduce, listing-Continue, listing-Break, listing-If, listing-branch, paths-Let, paths-Set, paths-Keep, paths-Reduce, paths-Continue, paths-Break, paths-If, paths-branch, expr_lemmas, value_lemmas, kind_lemmas, tower_lemmas, statement_lemmas, axis_lemmas)
