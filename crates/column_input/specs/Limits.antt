-- How large a table may be.
-- Source: this project.
use Rattle.std.specs.Prelude.{ℕ}

-- how many columns a header has at most
abbrev pub max_columns : ℕ
max_columns = 1024

-- how many fields the records of all files have together at most, the headers included
abbrev pub max_fields : ℕ
max_fields = 16777216
