-- The statements of the laws of values: what their order is, in the words of orders.
-- Source: this project.
use Rattle.std.specs.Prelude.{◌≡◌, ◌↔◌, ℤ, List, ℕ}
use Rattle.std.specs.declared.cmp.Ordering.TheVariants.{Less, Equal}
use Rattle.std.specs.Cmp.{IsTotalOrder}
use Rattle.loop_data.specs.declared.value.Value.{Value}
use Rattle.loop_data.specs.declared.value.Value.TheVariants.{Int, Text}
use Rattle.loop_data.specs.ValueOrder.{value_cmp}

-- any two values are in order
abbrev pub ValuesAreOrdered : Type 0
ValuesAreOrdered = IsTotalOrder value_cmp

-- only equal values are the same in the order
abbrev pub OnlyEqualValuesTie : Type 0
OnlyEqualValuesTie = (x y : Value) → value_cmp x y ≡ Equal ↔ (x ≡ y)

-- a number stands before a text
abbrev pub NumbersStandBeforeTexts : Type 0
NumbersStandBeforeTexts = (n : ℤ) (t : List ℕ) → value_cmp (Int n) (Text t) ≡ Less
