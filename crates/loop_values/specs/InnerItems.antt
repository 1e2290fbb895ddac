-- The items of an inner range: its bounds' values, how many there are, and each of them; or the first fault.
-- Source: Julia's ranges, which include the end where it is reached; the limit on body runs is this project's.
use Rattle.std.specs.Prelude.{◌≡◌, ◌≢◌, ℕ, ◌*◌, ◌<◌, if◌then◌else◌, nat_lt, List, Option, Some, None, Result, Ok, Err, ℤ, pos}
use Rattle.std.specs.Prelude.{FitsSigned}
use Rattle.std.specs.Int.{w64}
use Rattle.std.specs.Ordering.{int_eq}
use Rattle.number_ranges.specs.Ranges.{range_count, range_item, range_items, items_from}
use Rattle.loop_data.specs.declared.expr.Expr.{Expr}
use Rattle.loop_data.specs.declared.expr.RangeExpr.{RangeExpr}
use Rattle.loop_values.specs.declared.ranges.InnerRange.{InnerRange}
use Rattle.loop_values.specs.declared.stop.EvalStop.{EvalStop}
use Rattle.loop_values.specs.declared.stop.EvalStop.TheVariants.{StepZero, TooManyInner, NoMemory}
use Rattle.loop_values.specs.Bindings.{Names}
use Rattle.loop_values.specs.Operations.{Outcome}
use Rattle.loop_data.specs.ValueParts.{as_int}
use Rattle.loop_values.specs.Values.{value_of}

-- ---- the bounds from left to right

abbrev pub with_int : {A : Type 0} → Outcome → (ℤ → Result A EvalStop) → Result A EvalStop
with_int (Ok v) f = f (as_int v)
with_int (Err s) f = Err s

-- without a step it is 1
abbrev pub with_step : {A : Type 0} → Option Expr → Names → (ℤ → Result A EvalStop) → Result A EvalStop
with_step (Some e) env f = with_int (value_of e env) f
with_step None env f = f (pos 1)

-- what is made of the values of the first, the step and the last, or the first fault of these
abbrev pub with_bounds : {A : Type 0} → RangeExpr → Names → (ℤ → ℤ → ℤ → Result A EvalStop) → Result A EvalStop
with_bounds r env f =
    with_int (value_of r.first env) (λ a. with_step r.step env (λ s. with_int (value_of r.last env) (λ b. f a s b)))

-- ---- with the bounds' values, and how many body runs there are for each item already

-- the most body runs of one item
abbrev pub inner_limit : ℕ
inner_limit = 1000000

-- what a range of so many items gives, unless these would make too many body runs
abbrev pub limited : {A : Type 0} → ℕ → ℕ → A → Result A EvalStop
limited width count x = if nat_lt inner_limit (width * count) then Err TooManyInner else Ok x

-- what a range gives, unless its step is 0 or its items would make too many body runs
abbrev pub allowed : {A : Type 0} → ℕ → ℤ → ℤ → ℤ → A → Result A EvalStop
allowed width a s b x = if int_eq s (pos 0) then Err StepZero else limited width (range_count a s b) x

-- the items of a range, or the first fault
abbrev pub inner_items : RangeExpr → Names → ℕ → Result (List ℤ) EvalStop
inner_items r env width = with_bounds r env (λ a s b. allowed width a s b (range_items a s b))

-- ---- the same, as the first, the step and the count

abbrev pub Ranged : Type 0
Ranged = Result InnerRange EvalStop

abbrev pub ranged : ℕ → ℤ → ℤ → ℤ → Ranged
ranged width a s b = allowed width a s b (record { first = a; step = s; count = range_count a s b })

abbrev pub range_of : RangeExpr → Names → ℕ → Ranged
range_of r env width = with_bounds r env (ranged width)

-- the items that a first, a step and a count stand for
abbrev pub items_of : InnerRange → List ℤ
items_of r = items_from r.first r.step r.count

abbrev pub items_or_fault : Ranged → Result (List ℤ) EvalStop
items_or_fault (Ok r) = Ok (items_of r)
items_or_fault (Err s) = Err s

-- these items, or this fault, unless memory ran out
abbrev pub HasItems : Ranged → Result (List ℤ) EvalStop → Type 0
HasItems r items = r ≢ Err NoMemory → items_or_fault r ≡ items

-- each item is a number of 64 bits with a sign
abbrev pub ItemsFit : InnerRange → Type 0
ItemsFit r = (steps : ℕ) → steps < r.count → FitsSigned w64 (range_item r.first r.step steps)
