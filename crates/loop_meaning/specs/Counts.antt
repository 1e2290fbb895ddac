-- How many items a head has, by its axes: a range by its count, a column by its rows, a zip by its shortest part, a product by
-- the product of its axes. Source: Julia's ranges, `zip` and `Iterators.product`.
use Rattle.std.specs.Prelude.{ℕ, ◌*◌, if◌then◌else◌, List, [], ◌∷◌, length, map, min, Option, Some, None, ℤ, pos}
use Rattle.std.specs.Ordering.{int_eq}
use Rattle.number_ranges.specs.Ranges.{range_count}
use Rattle.loop_data.specs.declared.expr.RangeExpr.{RangeExpr}
use Rattle.loop_data.specs.declared.head.Axis.{Axis}
use Rattle.loop_data.specs.declared.head.Axis.TheOpen.{Axis-F, Axis-F as a}
use Rattle.loop_data.specs.declared.head.Axis.TheFolds.{fold-Axis}
use Rattle.loop_data.specs.declared.head.HeadLine.{HeadLine}
use Rattle.loop_grammar.specs.declared.tree.ProgramTree.{ProgramTree}
use Rattle.loop_values.specs.Bindings.{Names}
use Rattle.loop_values.specs.Values.{value_of}
use Rattle.column_input.specs.Table.{Contents, column_of}
use Rattle.loop_meaning.specs.Items.{Sources, number_of, sources_of, step_number}

-- how many items an axis has
abbrev pub Counting : Type 0
Counting = Sources → ℕ

-- of a range of step 0 there are none
abbrev pub numbers_count : ℤ → ℤ → ℤ → ℕ
numbers_count first step last = if int_eq step (pos 0) then 0 else range_count first step last

abbrev pub steps_count : RangeExpr → Names → ℕ
steps_count r names =
    numbers_count (number_of (value_of r.first names)) (step_number r.step names) (number_of (value_of r.last names))

-- of a column that isn't there there are none
abbrev pub column_count : Option (List (List ℕ)) → ℕ
column_count (Some texts) = length texts
column_count None = 0

abbrev pub least_of : ℕ → List ℕ → ℕ
least_of n [] = n
least_of n (m ∷ ms) = min n (least_of m ms)

-- the least of several numbers; 0 where there is none
abbrev pub least_count : List ℕ → ℕ
least_count [] = 0
least_count (n ∷ ns) = least_of n ns

abbrev pub product_of : List ℕ → ℕ
product_of [] = 1
product_of (n ∷ ns) = n * product_of ns

-- the counts of several axes
abbrev pub all_counts : List Counting → Sources → List ℕ
all_counts axes sources = map (λ axis. axis sources) axes

-- one layer of an axis, given the counts of its parts
abbrev pub axis_count_step : Axis-F Counting → Counting
axis_count_step (a.Steps r) sources = steps_count r sources.names
axis_count_step (a.Col name) sources = column_count (column_of sources.table name)
axis_count_step (a.Zip parts) sources = least_count (all_counts parts sources)

abbrev pub axis_count : Axis → Counting
axis_count = fold-Axis Counting axis_count_step

abbrev pub only_count : List ℕ → ℕ
only_count [] = 0
only_count (n ∷ _) = n

abbrev pub head_count : HeadLine → Counting
head_count head sources =
    let counts = all_counts (map axis_count head.axes) sources in
    if head.product then product_of counts else only_count counts

-- how many items a program's first head has over a table
abbrev pub items_count : ProgramTree → Contents → ℕ
items_count program table = head_count program.head (sources_of program table)
