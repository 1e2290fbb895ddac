-- The rows of one file, kept as one list of fields, row after row, and the rows of several files, one after another.
-- Source: this project.
use Rattle.std.specs.Prelude.{◌++◌, ℕ, zero, suc, List, [], ◌∷◌, Option, take, drop, slice_get, option_and_then}
use Rattle.column_input.specs.Records.{Fields}

-- rows of one width
pub record Grid : Type 0 where
  pub width : ℕ
  pub rows : List Fields

abbrev pub grid : ℕ → List Fields → Grid
grid width rows = record { width = width; rows = rows }

-- the first `count` rows of this width that the fields make
abbrev pub rows_of : ℕ → ℕ → Fields → List Fields
rows_of width zero fields = []
rows_of width (suc count) fields = take width fields ∷ rows_of width count (drop width fields)

-- the rows of these grids, grid after grid
abbrev pub joined : List Grid → List Fields
joined [] = []
joined (chunk ∷ chunks) = chunk.rows ++ joined chunks

-- the field in this row and column, both from 0
abbrev pub cell_at : List Fields → ℕ → ℕ → Option (List ℕ)
cell_at rows row column = option_and_then (λ fields. slice_get fields column) (slice_get rows row)
