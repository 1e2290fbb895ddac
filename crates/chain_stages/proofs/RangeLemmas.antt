-- The items of an inner range, with those of the ranges round it, are few.
use Rattle.std.proofs.Common.{◌≡◌, ℕ, ◌*◌, ◌≤◌, Bool, true, false, Option, Some, None, Ok, Err, refl, sym, subst, arith}
use Rattle.std.specs.Prelude.{if◌then◌else◌, nat_lt, IfOk, ℤ, pos}
use Rattle.std.specs.Ordering.{int_eq}
use Rattle.number_ranges.specs.Ranges.{range_count}
use Rattle.loop_data.specs.declared.expr.Expr.{Expr}
use Rattle.loop_data.specs.declared.expr.RangeExpr.{RangeExpr}
use Rattle.loop_values.specs.declared.ranges.InnerRange.{InnerRange}
use Rattle.loop_values.specs.declared.stop.EvalStop.TheVariants.{TooManyInner, StepZero}
use Rattle.loop_values.specs.Bindings.{Names}
use Rattle.loop_values.specs.InnerItems.{Ranged, inner_limit, range_of, with_int, with_step}
use Rattle.loop_values.specs.Operations.{Outcome}
use Rattle.loop_values.specs.Values.{value_of}

abbrev Room : ℕ → Ranged → Type 0
Room width r = IfOk r (λ range. width * range.count ≤ inner_limit)

not_over : (n : ℕ) → nat_lt inner_limit n ≡ false → n ≤ inner_limit
not_over n e = grind arith

limited_room : (width count : ℕ) (first step : ℤ) (over : Bool) → nat_lt inner_limit (width * count) ≡ over →
    Room width (if over then Err TooManyInner else Ok (record { first = first; step = step; count = count }))
limited_room width count first step true e = tt
limited_room width count first step false e = not_over (width * count) e

allowed_room : (width : ℕ) (a s b : ℤ) (none : Bool) →
    Room width (if none then Err StepZero else (if nat_lt inner_limit (width * range_count a s b) then Err TooManyInner else Ok (record { first = a; step = s; count = range_count a s b })))
allowed_room width a s b true = tt
allowed_room width a s b false = limited_room width (range_count a s b) a s (nat_lt inner_limit (width * range_count a s b)) refl

int_room : (width : ℕ) (o : Outcome) (f : ℤ → Ranged) → ((n : ℤ) → Room width (f n)) → Room width (with_int o f)
int_room width (Ok v) f h = h _
int_room width (Err stop) f h = tt

step_room : (width : ℕ) (step : Option Expr) (names : Names) (f : ℤ → Ranged) → ((n : ℤ) → Room width (f n)) → Room width (with_step step names f)
step_room width (Some x) names f h = int_room width (value_of x names) f h
step_room width None names f h = h _

-- the items of an inner range, with those of the ranges round it, are few
pub range_room : (width : ℕ) (r : RangeExpr) (names : Names) → Room width (range_of r names width)
range_room width r names =
    int_room width (value_of r.first names) _ (λ a.
    step_room width r.step names _ (λ s.
    int_room width (value_of r.last names) _ (λ b. allowed_room width a s b (int_eq s (pos 0)))))

pub room_of : (width : ℕ) (range : InnerRange) (r : Ranged) → Ok range ≡ r → Room width r → width * range.count ≤ inner_limit
room_of width range r is h = subst (Room width) (sym is) h
