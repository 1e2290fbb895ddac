-- What holds of the values, kinds and ranges of expressions: the statements of the laws.
-- Source: this project.
use Rattle.std.specs.Prelude.{◌≡◌, ◌≢◌, ℕ, ◌<◌, Bool, true, false, List, map, length, Some, Ok, Err, ℤ, pos, negsuc, ◌≤ℤ◌}
use Rattle.std.specs.Fmt.{signed_decimal}
use Rattle.std.specs.Ordering.{nat_cmp}
use Rattle.std.specs.Cmp.Lexicographic.{slice_cmp}
use Rattle.std.specs.FinMap.{FinMap, insert, get}
use Rattle.number_ranges.specs.Ranges.{range_item}
use Rattle.number_ranges.specs.Laws.{LiesBetween}
use Rattle.loop_data.specs.declared.value.Value.{Value}
use Rattle.loop_data.specs.declared.value.Value.TheVariants.{Int, Nothing, Tuple}
use Rattle.loop_data.specs.declared.value.ValueKind.{ValueKind}
use Rattle.loop_data.specs.declared.value.ValueKind.TheVariants as kind
use Rattle.loop_data.specs.declared.expr.Expr.{Expr}
use Rattle.loop_data.specs.declared.expr.RangeExpr.{RangeExpr}
use Rattle.loop_data.specs.ValueParts.{as_int}
use Rattle.loop_values.specs.declared.ranges.InnerRange.{InnerRange}
use Rattle.loop_values.specs.declared.stop.EvalStop.{EvalStop}
use Rattle.loop_values.specs.declared.stop.EvalStop.TheVariants as stop
use Rattle.loop_values.specs.declared.stop.TypeStop.{TypeStop}
use Rattle.loop_values.specs.declared.stop.TypeStop.TheVariants.{Differs}
use Rattle.loop_values.specs.Bindings.{Names}
use Rattle.loop_values.specs.Division.{IsModulo}
use Rattle.loop_values.specs.Fits.{Agree, IsFit, all_fit, fits, is_plain}
use Rattle.loop_values.specs.InnerItems.{inner_items, items_of, items_or_fault, range_of}
use Rattle.loop_values.specs.Kinds.{Kinds, AreWellFormed, is_maybe, is_well_formed, kind_of}
use Rattle.loop_values.specs.NamesIn.{PlaceIsBound, SameAt, names_in, names_in_range, names_read}
use Rattle.loop_values.specs.Operations.{modulo}
use Rattle.loop_values.specs.Spelling.{spelled}
use Rattle.loop_values.specs.StrictValues.{strict_value_of}
use Rattle.loop_values.specs.Values.{value_of}

-- ---- values and kinds

-- an expression with a kind has a value that fits it, or a fault, where names and values agree
abbrev pub ValueFitsKind : Type 0
ValueFitsKind = (x : Expr) (names : Kinds) (env : Names) (k : ValueKind) →
    Agree names env → PlaceIsBound env (names_in x) → kind_of x names ≡ Ok k → IsFit k (value_of x env)

-- and it asks for no default: its value is the one that the evaluator without defaults gives
abbrev pub NoDefaultIsAsked : Type 0
NoDefaultIsAsked = (x : Expr) (names : Kinds) (env : Names) (k : ValueKind) →
    Agree names env → PlaceIsBound env (names_in x) → kind_of x names ≡ Ok k → strict_value_of x env ≡ Some (value_of x env)

-- what the names of an expression are bound to is all that its value depends on
abbrev pub ValueDependsOnItsNames : Type 0
ValueDependsOnItsNames = (x : Expr) (env other : Names) → SameAt env other (names_in x) → value_of x env ≡ value_of x other

-- the kinds of the names that an expression reads are all that its kind depends on
abbrev pub KindDependsOnItsNames : Type 0
KindDependsOnItsNames = (x : Expr) (names other : Kinds) → SameAt names other (names_read x) → kind_of x names ≡ kind_of x other

-- a kind that is given is well formed, where those of the names are
abbrev pub KindsAreWellFormed : Type 0
KindsAreWellFormed = (x : Expr) (names : Kinds) (k : ValueKind) →
    AreWellFormed names → kind_of x names ≡ Ok k → is_well_formed k ≡ true

-- ---- values that fit

-- what fits Maybe of a kind and isn't nothing fits that kind
abbrev pub NotNothingFits : Type 0
NotNothingFits = (k : ValueKind) (v : Value) → v ≢ Nothing → fits (kind.Maybe k) v ≡ true → fits k v ≡ true

-- what fits a well-formed kind that isn't Maybe is plain: nothing stands nowhere in it, and tuples have 2 to 4 parts
abbrev pub FittingIsPlain : Type 0
FittingIsPlain = (k : ValueKind) (v : Value) →
    is_well_formed k ≡ true → is_maybe k ≡ false → fits k v ≡ true → is_plain v ≡ true

-- a tuple whose parts fit these kinds one by one
pub record IsFittingTuple (ks : List ValueKind) (v : Value) : Type 0 where
  pub parts : List Value
  pub is : v ≡ Tuple parts
  pub fit : all_fit (map fits ks) parts ≡ true
  pub count : length parts ≡ length ks

-- what fits a tuple of kinds is a tuple whose parts fit them one by one
abbrev pub TuplesFitByParts : Type 0
TuplesFitByParts = (ks : List ValueKind) (v : Value) → fits (kind.Tuple ks) v ≡ true → IsFittingTuple ks v

-- ---- faults

-- 1, 2 and 4: an expression gives no other
abbrev pub is_value_fault : EvalStop → Bool
is_value_fault stop.DivideError = true
is_value_fault stop.NotANumber = true
is_value_fault stop.TextTooLong = true
is_value_fault _ = false

-- 1 to 5: all but the want of memory
abbrev pub is_range_fault : EvalStop → Bool
is_range_fault stop.NoMemory = false
is_range_fault _ = true

abbrev pub ValuesHaveThreeFaults : Type 0
ValuesHaveThreeFaults = (x : Expr) (env : Names) (s : EvalStop) → value_of x env ≡ Err s → is_value_fault s ≡ true

abbrev pub RangesHaveFiveFaults : Type 0
RangesHaveFiveFaults = (r : RangeExpr) (env : Names) (width : ℕ) (s : EvalStop) →
    range_of r env width ≡ Err s → is_range_fault s ≡ true

-- an expression without a kind is refused in one way
abbrev pub KindsDifferOnly : Type 0
KindsDifferOnly = (x : Expr) (names : Kinds) (s : TypeStop) → kind_of x names ≡ Err s → s ≡ Differs

-- ---- ranges

-- the first, the step and the count stand for the items, and the fault is one
abbrev pub RangesStandForTheirItems : Type 0
RangesStandForTheirItems = (r : RangeExpr) (env : Names) (width : ℕ) →
    items_or_fault (range_of r env width) ≡ inner_items r env width

-- there are as many items as the count says
abbrev pub ItemsAreCounted : Type 0
ItemsAreCounted = (q : InnerRange) → length (items_of q) ≡ q.count

-- each item lies between the first and the last
abbrev pub ItemsLieBetween : Type 0
ItemsLieBetween = (r : RangeExpr) (env : Names) (width : ℕ) (q : InnerRange) (last : Value) →
    range_of r env width ≡ Ok q → value_of r.last env ≡ Ok last →
    (steps : ℕ) → steps < q.count → LiesBetween q.first (as_int last) (range_item q.first q.step steps)

-- what the names of a range's bounds are bound to is all that its items depend on
abbrev pub RangeDependsOnItsNames : Type 0
RangeDependsOnItsNames = (r : RangeExpr) (env other : Names) (width : ℕ) →
    SameAt env other (names_in_range r) → range_of r env width ≡ range_of r other width

-- ---- bindings, of values or of kinds

abbrev pub ByName : Type 0 → Type 0
ByName X = FinMap (slice_cmp nat_cmp) X

-- a name that is bound has that value
abbrev pub BoundNameHasItsValue : Type 0 → Type 0
BoundNameHasItsValue X = (env : ByName X) (n : List ℕ) (x : X) → get (insert env n x) n ≡ Some x

-- each other name keeps its own
abbrev pub OtherNamesKeepTheirs : Type 0 → Type 0
OtherNamesKeepTheirs X = (env : ByName X) (m n : List ℕ) (x : X) → n ≢ m → get (insert env m x) n ≡ get env n

-- two names that differ may be bound in either order
abbrev pub NamesBindInEitherOrder : Type 0 → Type 0
NamesBindInEitherOrder X = (env : ByName X) (m n : List ℕ) (x y : X) → m ≢ n →
    insert (insert env m x) n y ≡ insert (insert env n y) m x

-- ---- texts

-- the decimal text of a number of 64 bits spells that number
abbrev pub DecimalSpellsItsNumber : Type 0
DecimalSpellsItsNumber = (n : ℤ) → negsuc 9223372036854775807 ≤ℤ n → n ≤ℤ pos 9223372036854775807 →
    spelled (signed_decimal n) ≡ Some n

-- ---- what `mod` leaves

-- wherever the divisor isn't 0 there is a rest, which lies between 0 and the divisor and leaves a multiple of it
abbrev pub ModuloSplits : Type 0
ModuloSplits = (a b : ℤ) → b ≢ pos 0 → (m : ℤ) × (modulo a b ≡ Ok (Int m)) × IsModulo a b m
