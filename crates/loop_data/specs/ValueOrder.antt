-- An order of all values: numbers by size, before texts by their bytes, before truth values with false first, before nothing,
-- before tuples, which are ordered part by part. Source: this project.
use Rattle.std.specs.Prelude.{ℕ}
use Rattle.std.specs.Ordering.{nat_cmp, int_cmp, bool_cmp}
use Rattle.std.specs.declared.cmp.Ordering.{Ordering}
use Rattle.std.specs.Cmp.Lexicographic.{slice_cmp}
use Rattle.loop_data.specs.declared.value.Value.{Value, out-Value}
use Rattle.loop_data.specs.declared.value.Value.TheOpen.{Value-F, Value-F as v}
use Rattle.loop_data.specs.declared.value.Value.TheFolds.{fold-Value}

-- where values of one form stand among the others
abbrev pub form_rank : {X : Type 0} → Value-F X → ℕ
form_rank (v.Int _) = 0
form_rank (v.Text _) = 1
form_rank (v.Bool _) = 2
form_rank v.Nothing = 3
form_rank (v.Tuple _) = 4

-- by what they hold where they have one form, the parts of the left being compared by what they answer to those of the right
abbrev pub order_of : Value-F (Value → Ordering) → Value-F Value → Ordering
order_of (v.Int a) (v.Int b) = int_cmp a b
order_of (v.Text a) (v.Text b) = slice_cmp nat_cmp a b
order_of (v.Bool a) (v.Bool b) = bool_cmp a b
order_of (v.Tuple compares) (v.Tuple parts) = slice_cmp (λ compare part. compare part) compares parts
order_of x y = nat_cmp (form_rank x) (form_rank y)

abbrev pub order_step : Value-F (Value → Ordering) → Value → Ordering
order_step x y = order_of x (out-Value y)

-- how a value stands to another
abbrev pub value_cmp : Value → Value → Ordering
value_cmp = fold-Value (Value → Ordering) order_step

-- where a value stands by its form alone
abbrev pub value_rank : Value → ℕ
value_rank x = form_rank (out-Value x)
