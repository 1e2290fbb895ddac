-- The value of each form of expression, one layer at a time.
use Rattle.std.proofs.Common.{◌≡◌, ℕ, List, Ok, rules}
use Rattle.loop_data.specs.declared.value.Value.{Value}
use Rattle.loop_data.specs.declared.expr.Op.{Op}
use Rattle.loop_data.specs.declared.expr.Expr.{Expr, the_lemmas}
use Rattle.loop_data.specs.declared.expr.Expr.TheVariants as e
use Rattle.loop_values.specs.Bindings.{Names, place_name}
use Rattle.loop_values.specs.Operations.{and_then}
use Rattle.loop_values.specs.Values.{value_of, bound, second}

module _ (env : Names) where
  pub value_of-Lit : (v : Value) → value_of (e.Lit v) env ≡ Ok v
  value_of-Lit v = search (rules, the_lemmas)

  pub value_of-Name : (n : List ℕ) → value_of (e.Name n) env ≡ bound (env n)
  value_of-Name n = search (rules, the_lemmas)

  pub value_of-Place : value_of e.Place env ≡ bound (env place_name)
  value_of-Place = search (rules, the_lemmas)

  pub value_of-Two : (o : Op) (a b : Expr) → value_of (e.Two o a b) env ≡ and_then (value_of a env) (λ x. second o x (value_of b env))
  value_of-Two o a b = search (rules, the_lemmas)
