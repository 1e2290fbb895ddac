-- The items of a loop: the values that its first head goes over, in order, as one plain list.
-- Source: Julia's ranges, `zip`, which ends with its shortest part, and `Iterators.product`, whose first axis changes fastest.
use Rattle.std.specs.Prelude.{ℕ, if◌then◌else◌, List, [], ◌∷◌, map, flat_map, Option, Some, None, Ok, Err, ℤ, pos}
use Rattle.std.specs.Ordering.{int_eq}
use Rattle.std.specs.FinMap.{get}
use Rattle.number_ranges.specs.Ranges.{range_items}
use Rattle.loop_data.specs.ValueParts.{as_int}
use Rattle.loop_data.specs.declared.value.Value.{Value}
use Rattle.loop_data.specs.declared.value.Value.TheVariants.{Int, Text, Tuple}
use Rattle.loop_data.specs.declared.expr.Expr.{Expr}
use Rattle.loop_data.specs.declared.expr.RangeExpr.{RangeExpr}
use Rattle.loop_data.specs.declared.head.Axis.{Axis}
use Rattle.loop_data.specs.declared.head.Axis.TheOpen.{Axis-F, Axis-F as a}
use Rattle.loop_data.specs.declared.head.Axis.TheFolds.{fold-Axis}
use Rattle.loop_data.specs.declared.head.HeadLine.{HeadLine}
use Rattle.loop_grammar.specs.declared.tree.ProgramTree.{ProgramTree}
use Rattle.loop_values.specs.Bindings.{Names}
use Rattle.loop_values.specs.Operations.{Outcome}
use Rattle.loop_values.specs.Values.{value_of}
use Rattle.column_input.specs.Table.{Contents, column_of}
use Rattle.loop_meaning.specs.Stores.{variables}

-- what a head reads: the values of the outer variables, and the table
pub record Sources : Type 0 where
  pub names : Names
  pub table : Contents

abbrev pub sources : Names → Contents → Sources
sources names table = record { names = names; table = table }

-- the values that an axis goes over
abbrev pub Listing : Type 0
Listing = Sources → List Value

-- ---- ranges and columns

-- a bound's number; a bound that faults, which no legal head has, counts as 0
abbrev pub number_of : Outcome → ℤ
number_of (Ok v) = as_int v
number_of (Err stop) = pos 0

-- without a step it is 1
abbrev pub step_number : Option Expr → Names → ℤ
step_number (Some x) names = number_of (value_of x names)
step_number None names = pos 1

-- the numbers first, first + step and so on, up to the last; with step 0, over which no loop runs, there are none
abbrev pub numbers : ℤ → ℤ → ℤ → List ℤ
numbers first step last = if int_eq step (pos 0) then [] else range_items first step last

-- the numbers of a range, by the values of its bounds
abbrev pub steps_items : RangeExpr → Names → List Value
steps_items r names =
    map Int (numbers (number_of (value_of r.first names)) (step_number r.step names) (number_of (value_of r.last names)))

-- the texts of a column from top to bottom; of a column that isn't there, over which no loop runs, there are none
abbrev pub column_items : Option (List (List ℕ)) → List Value
column_items (Some texts) = map Text texts
column_items None = []

-- ---- zips and products

-- each value in front of the list at its place, up to the shorter end
abbrev pub in_front : List Value → List (List Value) → List (List Value)
in_front (x ∷ xs) (row ∷ rows) = (x ∷ row) ∷ in_front xs rows
in_front _ _ = []

-- the lists side by side: row k holds each list's item k, up to the end of the shortest
abbrev pub side_by_side : List (List Value) → List (List Value)
side_by_side [] = []
side_by_side (xs ∷ []) = map (λ x. x ∷ []) xs
side_by_side (xs ∷ ys ∷ more) = in_front xs (side_by_side (ys ∷ more))

-- each choice of an item from each list: for each choice from the later lists, in order, all items of the first, which so
-- changes fastest
abbrev pub combinations : List (List Value) → List (List Value)
combinations [] = [] ∷ []
combinations (xs ∷ more) = flat_map (λ row. map (λ x. x ∷ row) xs) (combinations more)

-- ---- heads

-- the values of each of several axes
abbrev pub all_items : List Listing → Sources → List (List Value)
all_items axes sources = map (λ axis. axis sources) axes

-- one layer of an axis, given what its parts go over
abbrev pub axis_step : Axis-F Listing → Listing
axis_step (a.Steps r) sources = steps_items r sources.names
axis_step (a.Col name) sources = column_items (column_of sources.table name)
axis_step (a.Zip parts) sources = map Tuple (side_by_side (all_items parts sources))

abbrev pub axis_items : Axis → Listing
axis_items = fold-Axis Listing axis_step

-- the one axis of a head that isn't a product
abbrev pub only_axis : List (List Value) → List Value
only_axis [] = []
only_axis (items ∷ _) = items

abbrev pub head_items : HeadLine → Listing
head_items head sources =
    let axes = all_items (map axis_items head.axes) sources in
    if head.product then map Tuple (combinations axes) else only_axis axes

abbrev pub sources_of : ProgramTree → Contents → Sources
sources_of program table = sources (get (variables program)) table

-- the items of a program's first head over a table, in order
abbrev pub items_of : ProgramTree → Contents → List Value
items_of program table = head_items program.head (sources_of program table)
