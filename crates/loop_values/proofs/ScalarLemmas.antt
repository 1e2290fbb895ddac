-- What operations of two sides give where a number or a truth value is needed of them, and of a whole expression.
use Rattle.std.proofs.Common.{◌≡◌, ◌≢◌, Bool, true, false, Ok, Err, refl, ap, sym, ◌∙◌, subst}
use Rattle.std.specs.Prelude.{if◌then◌else◌, ℤ}
use Rattle.loop_data.specs.declared.value.Value.{Value}
use Rattle.loop_data.specs.declared.value.Value.TheVariants.{Int}
use Rattle.loop_data.specs.declared.expr.Op.{Op}
use Rattle.loop_data.specs.declared.expr.Op.TheVariants as op
use Rattle.loop_data.specs.declared.expr.Expr.{Expr}
use Rattle.loop_data.specs.declared.expr.Expr.TheVariants as e
use Rattle.loop_data.specs.ValueParts.{as_int, as_bool}
use Rattle.loop_values.specs.declared.stop.EvalStop.{EvalStop}
use Rattle.loop_values.specs.declared.stop.EvalStop.TheVariants.{DivideError}
use Rattle.loop_values.specs.Bindings.{Names}
use Rattle.loop_values.specs.Operations.{Outcome, Number, and_then, truth, two_of, decides, compared, has_no_quotient, is_arithmetic, is_comparison, gives_truth, arithmetic, int_or_fault, number_value, IsNumber, IsTruth}
use Rattle.loop_values.specs.Values.{value_of, second}
use Rattle.loop_values.proofs.Layers.{value_of-Two}

-- ---- operations on values

undecided : (o : Op) (v : Value) → is_arithmetic o ≡ true → decides o v ≡ false
undecided op.And v h = absurd (cc)
undecided op.Or v h = absurd (cc)
undecided _ v h = refl

if_number : (b : Bool) (s : EvalStop) (n : ℤ) → IsNumber (if b then Err s else Ok (Int n))
if_number true s n = refl
if_number false s n = refl

-- an operation of numbers looks at the numbers of its sides alone, and gives one
pub two_of-arithmetic : (o : Op) (v w : Value) → is_arithmetic o ≡ true → two_of o v w ≡ number_value (arithmetic o (as_int v) (as_int w))
two_of-arithmetic op.Add v w h = refl
two_of-arithmetic op.Sub v w h = refl
two_of-arithmetic op.Mul v w h = refl
two_of-arithmetic op.Div v w h = if_number (has_no_quotient (as_int v) (as_int w)) DivideError _
two_of-arithmetic op.Rem v w h = if_number _ DivideError _
two_of-arithmetic op.Mod v w h = if_number _ DivideError _
two_of-arithmetic op.Min v w h = refl
two_of-arithmetic op.Max v w h = refl
two_of-arithmetic _ v w h = absurd (cc)

pub two_of-comparison : (o : Op) (v w : Value) → is_comparison o ≡ true → two_of o v w ≡ truth (compared o v w)
two_of-comparison op.Eq v w h = refl
two_of-comparison op.Ne v w h = refl
two_of-comparison op.Lt v w h = refl
two_of-comparison op.Le v w h = refl
two_of-comparison op.Gt v w h = refl
two_of-comparison op.Ge v w h = refl
two_of-comparison _ v w h = absurd (cc)

-- what is left are `and` and `or`
pub two_of-truth : (o : Op) (v w : Value) → is_arithmetic o ≡ false → is_comparison o ≡ false → o ≢ op.Join → two_of o v w ≡ truth (as_bool w)
two_of-truth op.And v w h k ne = refl
two_of-truth op.Or v w h k ne = refl
two_of-truth op.Join v w h k ne = absurd (ne refl)
two_of-truth _ v w h k ne = absurd (cc)

-- ---- the outcomes of both sides

abbrev pub next : Number → (ℤ → Number) → Number
next (Ok n) f = f n
next (Err s) f = Err s

abbrev both : Op → Outcome → Outcome → Outcome
both o r s = and_then r (λ x. second o x s)

arithmetic_at : (o : Op) (r s : Outcome) → is_arithmetic o ≡ true → both o r s ≡ number_value (next (int_or_fault r) (λ a. next (int_or_fault s) (arithmetic o a)))
arithmetic_at o (Ok v) (Ok w) h =
    ap (λ b. if b then truth (as_bool v) else two_of o v w) (undecided o v h) ∙ two_of-arithmetic o v w h
arithmetic_at o (Ok v) (Err s) h = ap (λ b. if b then truth (as_bool v) else Err s) (undecided o v h)
arithmetic_at o (Err s) r h = refl

number_is_number : (r : Number) → IsNumber (number_value r)
number_is_number (Ok n) = refl
number_is_number (Err s) = refl

int-number_value : (r : Number) → int_or_fault (number_value r) ≡ r
int-number_value (Ok n) = refl
int-number_value (Err s) = refl

if_truth : (b c : Bool) (s : Outcome) → IsTruth s → IsTruth (if b then truth c else s)
if_truth true c s h = refl
if_truth false c s h = h

truth_after : (o : Op) (v : Value) (s : Outcome) → gives_truth o ≡ true → IsTruth (and_then s (two_of o v))
truth_after o v (Err t) h = refl
truth_after op.Eq v (Ok w) h = refl
truth_after op.Ne v (Ok w) h = refl
truth_after op.Lt v (Ok w) h = refl
truth_after op.Le v (Ok w) h = refl
truth_after op.Gt v (Ok w) h = refl
truth_after op.Ge v (Ok w) h = refl
truth_after op.And v (Ok w) h = refl
truth_after op.Or v (Ok w) h = refl
truth_after _ v (Ok w) h = absurd (cc)

both_truth : (o : Op) (r s : Outcome) → gives_truth o ≡ true → IsTruth (both o r s)
both_truth o (Ok v) s h = if_truth (decides o v) (as_bool v) _ (truth_after o v s h)
both_truth o (Err t) s h = refl

-- ---- expressions

-- the value of an operation of numbers, by the numbers of its sides
pub number-Two : (env : Names) (o : Op) (a b : Expr) → is_arithmetic o ≡ true → value_of (e.Two o a b) env ≡ number_value (next (int_or_fault (value_of a env)) (λ x. next (int_or_fault (value_of b env)) (arithmetic o x)))
number-Two env o a b h = value_of-Two env o a b ∙ arithmetic_at o (value_of a env) (value_of b env) h

-- the number of an operation of numbers, by the numbers of its sides
pub int-Two : (env : Names) (o : Op) (a b : Expr) → is_arithmetic o ≡ true → int_or_fault (value_of (e.Two o a b) env) ≡ next (int_or_fault (value_of a env)) (λ x. next (int_or_fault (value_of b env)) (arithmetic o x))
int-Two env o a b h = ap int_or_fault (number-Two env o a b h) ∙ int-number_value _

pub number_from-Two : (env : Names) (x : Expr) (o : Op) (a b : Expr) → x ≡ e.Two o a b → is_arithmetic o ≡ true → IsNumber (value_of x env)
number_from-Two env x o a b is h = subst IsNumber (sym (ap (λ y. value_of y env) is ∙ number-Two env o a b h)) (number_is_number _)

pub truth_from-Two : (env : Names) (x : Expr) (o : Op) (a b : Expr) → x ≡ e.Two o a b → gives_truth o ≡ true → IsTruth (value_of x env)
truth_from-Two env x o a b is h = subst IsTruth (sym (ap (λ y. value_of y env) is ∙ value_of-Two env o a b)) (both_truth o (value_of a env) (value_of b env) h)
