-- The names that an expression holds, and bindings that are the same at some names.
-- Source: this project.
use Rattle.std.specs.Prelude.{◌≡◌, ℕ, List, [], ◌∷◌, ◌++◌, Option, Some, None, ℤ}
use Rattle.loop_data.specs.declared.value.Value.TheVariants.{Int}
use Rattle.loop_data.specs.declared.expr.Expr.{Expr}
use Rattle.loop_data.specs.declared.expr.Expr.TheOpen.{Expr-F, Expr-F as e}
use Rattle.loop_data.specs.declared.expr.Expr.TheFolds.{fold-Expr}
use Rattle.loop_data.specs.declared.expr.RangeExpr.{RangeExpr}
use Rattle.loop_values.specs.Bindings.{Names, place_name}

abbrev pub all_names : List (List (List ℕ)) → List (List ℕ)
all_names [] = []
all_names (ns ∷ more) = ns ++ all_names more

abbrev pub or_none : Option (List (List ℕ)) → List (List ℕ)
or_none (Some ns) = ns
or_none None = []

-- one layer of an expression, given the names in its parts
abbrev pub names_step : Expr-F (List (List ℕ)) → List (List ℕ)
names_step (e.Lit v) = []
names_step (e.Name n) = n ∷ []
names_step e.Place = place_name ∷ []
names_step (e.Neg a) = a
names_step (e.Not a) = a
names_step (e.Two o a b) = a ++ b
names_step (e.Call w a) = a
names_step (e.If t a b) = t ++ a ++ or_none b
names_step (e.Tuple ps) = all_names ps

-- the names whose values an expression asks for, from left to right, `place` among them
abbrev pub names_in : Expr → List (List ℕ)
names_in = fold-Expr (List (List ℕ)) names_step

-- one layer of an expression, given the names that its parts read
abbrev pub read_step : Expr-F (List (List ℕ)) → List (List ℕ)
read_step e.Place = []
read_step x = names_step x

-- the names that an expression reads, from left to right. `place` is none of them: no line binds it
abbrev pub names_read : Expr → List (List ℕ)
names_read = fold-Expr (List (List ℕ)) read_step

abbrev pub names_in_step : Option Expr → List (List ℕ)
names_in_step (Some x) = names_in x
names_in_step None = []

-- the names whose values a range's bounds ask for
abbrev pub names_in_range : RangeExpr → List (List ℕ)
names_in_range r = names_in r.first ++ names_in_step r.step ++ names_in r.last

-- each of the names has the same value, or the same kind, in both, or stands in neither
abbrev pub SameAt : {X : Type 0} → (List ℕ → Option X) → (List ℕ → Option X) → List (List ℕ) → Type 0
SameAt env other [] = Unit {0}
SameAt env other (n ∷ ns) = (env n ≡ other n) × SameAt env other ns

-- where `place` is among the names it is bound to a number
abbrev pub PlaceIsBound : Names → List (List ℕ) → Type 0
PlaceIsBound env [] = Unit {0}
PlaceIsBound env (n ∷ ns) = (n ≡ place_name → (k : ℤ) × (env n ≡ Some (Int k))) × PlaceIsBound env ns
