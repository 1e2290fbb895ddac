-- The value of an expression under the values of its names, or the first fault, the parts from left to right.
-- Source: this project. It is total: what an expression without a kind gives is never asked (Kinds, Fits).
use Rattle.std.specs.Prelude.{not, if◌then◌else◌, List, [], ◌∷◌, ◌++◌, Option, Some, None, Ok, neg_ℤ}
use Rattle.loop_data.specs.declared.value.Value.{Value}
use Rattle.loop_data.specs.declared.value.Value.TheVariants.{Nothing, Tuple}
use Rattle.loop_data.specs.declared.expr.Op.{Op}
use Rattle.loop_data.specs.declared.expr.Expr.{Expr}
use Rattle.loop_data.specs.declared.expr.Expr.TheOpen.{Expr-F, Expr-F as e}
use Rattle.loop_data.specs.declared.expr.Expr.TheFolds.{fold-Expr}
use Rattle.loop_values.specs.Bindings.{Names, place_name}
use Rattle.loop_values.specs.Operations.{Outcome, Number, Test, int_or_fault, bool_or_fault, and_then, wrapped, truth, two_of}
use Rattle.loop_values.specs.Operations.{decides, call_of}
use Rattle.loop_data.specs.ValueParts.{as_int, as_bool}

-- what an expression means: its outcome, given the values of names
abbrev pub Meaning : Type 0
Meaning = Names → Outcome

-- the value of a name; of a name that isn't bound no expression with a kind asks
abbrev pub bound : Option Value → Outcome
bound (Some v) = Ok v
bound None = Ok Nothing

-- with the left side's value x and the right side's outcome r
abbrev pub second : Op → Value → Outcome → Outcome
second o x r = if decides o x then truth (as_bool x) else and_then r (two_of o x)

-- what stands after `else`, or nothing
abbrev pub other_of : Option Meaning → Names → Outcome
other_of (Some m) env = m env
other_of None env = Ok Nothing

-- the tuple of the values that are done and of the parts that are left, from left to right
abbrev pub part_values : List Value → List Meaning → Names → Outcome
part_values done [] env = Ok (Tuple done)
part_values done (m ∷ ms) env = and_then (m env) (λ v. part_values (done ++ v ∷ []) ms env)

-- one layer of an expression, given what its parts mean
abbrev pub value_step : Expr-F Meaning → Meaning
value_step (e.Lit v) env = Ok v
value_step (e.Name n) env = bound (env n)
value_step e.Place env = bound (env place_name)
value_step (e.Neg a) env = and_then (a env) (λ x. wrapped (neg_ℤ (as_int x)))
value_step (e.Not a) env = and_then (a env) (λ x. truth (not (as_bool x)))
value_step (e.Two o a b) env = and_then (a env) (λ x. second o x (b env))
value_step (e.Call w a) env = and_then (a env) (call_of w)
value_step (e.If t a b) env = and_then (t env) (λ x. if as_bool x then a env else other_of b env)
value_step (e.Tuple ps) env = part_values [] ps env

abbrev pub value_of : Expr → Meaning
value_of = fold-Expr Meaning value_step

-- the number that an expression counts as where one is needed, or its first fault
abbrev pub int_of : Expr → Names → Number
int_of x env = int_or_fault (value_of x env)

-- the truth value that an expression counts as where one is needed, or its first fault
abbrev pub bool_of : Expr → Names → Test
bool_of x env = bool_or_fault (value_of x env)
