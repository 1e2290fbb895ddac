-- The collections that a head names: its ranges and columns from left to right, those inside zips too.
-- Source: this project, after the ranges of Julia.
use Rattle.std.specs.Prelude.{ℕ, List, [], ◌∷◌, flat_map, Option, ℤ}
use Rattle.loop_data.specs.declared.expr.RangeExpr.{RangeExpr}
use Rattle.loop_data.specs.declared.head.Axis.{Axis}
use Rattle.loop_data.specs.declared.head.Axis.TheOpen.{Axis-F, Axis-F as a}
use Rattle.loop_data.specs.declared.head.Axis.TheFolds.{fold-Axis}
use Rattle.loop_data.specs.declared.head.HeadLine.{HeadLine}
use Rattle.loop_values.specs.Bindings.{Names}
use Rattle.loop_values.specs.Values.{value_of}
use Rattle.column_input.specs.Table.{column_of}
use Rattle.loop_meaning.specs.Items.{Sources, number_of, step_number}

-- a range by the numbers of its first, its step and its last; a column by its name and by its texts, if the table has any
pub data Collection : Type 0 where
  range : ℤ → ℤ → ℤ → Collection
  column : List ℕ → Option (List (List ℕ)) → Collection

-- a range by the values of its bounds
abbrev pub numbers_of : RangeExpr → Names → Collection
numbers_of r names = range (number_of (value_of r.first names)) (step_number r.step names) (number_of (value_of r.last names))

-- the collections of an axis
abbrev pub Collecting : Type 0
Collecting = Sources → List Collection

-- one layer of an axis, given the collections of its parts
abbrev pub collected_step : Axis-F Collecting → Collecting
collected_step (a.Steps r) sources = numbers_of r sources.names ∷ []
collected_step (a.Col name) sources = column name (column_of sources.table name) ∷ []
collected_step (a.Zip parts) sources = flat_map (λ part. part sources) parts

abbrev pub collected : Axis → Collecting
collected = fold-Axis Collecting collected_step

-- the collections of several axes
abbrev pub all_collected : List Axis → Collecting
all_collected axes sources = flat_map (λ axis. collected axis sources) axes

-- the collections of a head
abbrev pub head_collected : HeadLine → Collecting
head_collected head sources = all_collected head.axes sources
