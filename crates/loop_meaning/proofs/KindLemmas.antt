-- A fault of an expression, of a tower's input and of a range has a kind from 1 to 5: none of them is want of memory.
use Rattle.std.proofs.Common.{◌≡◌, ℕ, ◌≤◌, true, List, Ok, Err, Result, refl, ap, sym, ◌∙◌, arith}
use Rattle.std.specs.Prelude.{ℤ}
use Rattle.loop_data.specs.declared.expr.Expr.{Expr}
use Rattle.loop_data.specs.declared.expr.RangeExpr.{RangeExpr}
use Rattle.loop_data.specs.declared.tower.TowerExpr.{TowerExpr}
use Rattle.loop_values.specs.declared.stop.EvalStop.{EvalStop}
use Rattle.loop_values.specs.declared.stop.EvalStop.TheVariants as stop
use Rattle.loop_values.specs.Bindings.{Names}
use Rattle.loop_values.specs.InnerItems.{Ranged, inner_items, items_or_fault, range_of}
use Rattle.loop_values.specs.Laws.{is_range_fault, is_value_fault}
use Rattle.loop_values.specs.Stops.{fault_number}
use Rattle.loop_values.specs.Values.{value_of}
use Rattle.loop_values.proofs.FaultLemmas.{five_faults, three_faults}
use Rattle.loop_values.proofs.RangeLemmas.{range_items_of}
use Rattle.tower_inputs.proofs.InputFaults.{input_faults}
use Rattle.tower_inputs.specs.Inputs.{input_of}

-- a value, or a fault whose kind is from 1 to 5
pub record Proper {A : Type 0} (r : Result A EvalStop) : Type 0 where
  pub kind : (s : EvalStop) → r ≡ Err s → (1 ≤ fault_number s) × (fault_number s ≤ 5)

value_kind : (s : EvalStop) → is_value_fault s ≡ true → (1 ≤ fault_number s) × (fault_number s ≤ 5)
value_kind stop.DivideError e = (omega arith, omega arith)
value_kind stop.NotANumber e = (omega arith, omega arith)
value_kind stop.TextTooLong e = (omega arith, omega arith)
value_kind stop.TooManyInner e = (omega arith, omega arith)
value_kind stop.StepZero e = (omega arith, omega arith)
value_kind stop.NoMemory e = absurd (cc)

range_kind : (s : EvalStop) → is_range_fault s ≡ true → (1 ≤ fault_number s) × (fault_number s ≤ 5)
range_kind stop.NoMemory e = absurd (cc)
range_kind stop.DivideError e = (omega arith, omega arith)
range_kind stop.NotANumber e = (omega arith, omega arith)
range_kind stop.TextTooLong e = (omega arith, omega arith)
range_kind stop.TooManyInner e = (omega arith, omega arith)
range_kind stop.StepZero e = (omega arith, omega arith)

pub value_proper : (x : Expr) (names : Names) → Proper (value_of x names)
value_proper x names = record { kind = λ s e. value_kind s (three_faults x names s e) }

pub input_proper : (tower : TowerExpr) (names : Names) → Proper (input_of tower names)
input_proper tower names = record { kind = λ s e. value_kind s (input_faults tower names s e) }

-- a fault in place of the items is the range's
fault_of : (q : Ranged) (s : EvalStop) → items_or_fault q ≡ Err s → q ≡ Err s
fault_of (Ok r) s e = absurd (cc)
fault_of (Err t) s e = cc

pub items_proper : (r : RangeExpr) (names : Names) (width : ℕ) → Proper (inner_items r names width)
items_proper r names width = record {
  kind = λ s e. range_kind s (five_faults r names width s (fault_of (range_of r names width) s (range_items_of r names width ∙ e)));
}
