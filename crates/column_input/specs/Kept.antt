-- What a table keeps of its header and of the rows of its files.
-- Source: this project.
use Rattle.std.specs.Prelude.{◌≡◌, ◌+◌, ◌*◌, ◌<◌, ◌≤◌, ℕ, List, All, length, sum_by}
use Rattle.column_input.specs.Chunk.{Grid, joined}
use Rattle.column_input.specs.Limits.{max_columns, max_fields}
use Rattle.column_input.specs.Records.{Fields}

-- each file has the header's width, and all keep the limits
pub record IsKept (header : Fields) (chunks : List Grid) (rows : ℕ) : Type 0 where
  pub some : 0 < length chunks → 0 < length header
  pub columns : length header ≤ max_columns
  pub wide : All (λ chunk. chunk.width ≡ length header) chunks
  pub count : rows ≡ length (joined chunks)
  pub even : sum_by length (joined chunks) ≡ rows * length header
  pub limit : (length chunks + rows) * length header ≤ max_fields
  pub bound : rows < max_fields
