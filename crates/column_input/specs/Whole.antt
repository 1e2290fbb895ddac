-- What holds of every table that was read.
-- Source: this project.
use Rattle.std.specs.Prelude.{◌≡◌, ◌<◌, ◌≤◌, ◌++◌, ◌∷◌, [], ℕ, List, All, length}
use Rattle.csv.specs.Records.{AllText}
use Rattle.column_input.specs.Limits.{max_columns, max_fields}
use Rattle.column_input.specs.Records.{records_of}
use Rattle.column_input.specs.Table.{Contents, fields_in, rows_after_header}

-- there is a column and are at most `max_columns`, each row has a field for each column, each field is UTF-8, and the fields of
-- all files together, headers included, are at most `max_fields`
pub record IsWhole (table : Contents) : Type 0 where
  pub some : 0 < length table.header
  pub columns : length table.header ≤ max_columns
  pub even : All (λ row. length row ≡ length table.header) table.rows
  pub names : AllText table.header
  pub texts : All AllText table.rows
  pub fields : fields_in table ≤ max_fields

-- the records after each file's header, file after file
abbrev pub rows_of_files : List (List ℕ) → List (List (List ℕ))
rows_of_files [] = []
rows_of_files (bytes ∷ files) = rows_after_header (records_of bytes) ++ rows_of_files files

-- the table's header is the first record of each of these files, its rows are the records after it, file after file, and it
-- knows how many files they are
pub record HoldsFiles (table : Contents) (files : List (List ℕ)) : Type 0 where
  pub header : All (λ bytes. records_of bytes ≡ table.header ∷ rows_after_header (records_of bytes)) files
  pub rows : table.rows ≡ rows_of_files files
  pub count : table.files ≡ length files
