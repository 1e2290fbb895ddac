-- The table of a list of files under one header, and the first refusal of the first file that has one.
-- Source: RFC 4180 for records and the header; several files under one header are this project's.
use Rattle.std.specs.Prelude.{◌==◌, if◌then◌else◌, ◌+◌, ◌*◌, ◌++◌, ℕ, List, [], ◌∷◌, Option, Some, None, Result, Ok, Err}
use Rattle.std.specs.Prelude.{length, map, option_map, position, slice_index_or, sum_by}
use Rattle.std.specs.Str.{bytes_eq}
use Rattle.column_input.specs.Limits.{max_fields}
use Rattle.column_input.specs.Records.{Fields, records_of}
use Rattle.column_input.specs.Refusals.{first_file_refusal, further_file_refusal}
use Rattle.column_input.specs.declared.refusal.TableRefusal.{TableRefusal}

-- what a table holds: the header's fields, the fields of each row, file after file, and how many files it was read from
pub record Contents : Type 0 where
  pub header : Fields
  pub rows : List Fields
  pub files : ℕ

abbrev pub contents : Fields → List Fields → ℕ → Contents
contents header rows files = record { header = header; rows = rows; files = files }

-- how many fields the records of a table's files have together, the header of each file included
abbrev pub fields_in : Contents → ℕ
fields_in table = table.files * length table.header + sum_by length table.rows

-- these contents, unless there is a refusal
abbrev pub unless_refused : Option TableRefusal → Contents → Result Contents TableRefusal
unless_refused None whole = Ok whole
unless_refused (Some refusal) whole = Err refusal

-- the records after the first, which is a file's header
abbrev pub rows_after_header : List Fields → List Fields
rows_after_header [] = []
rows_after_header (header ∷ rows) = rows

-- the first file's first record is the header, its others are the rows
abbrev pub first_contents : List Fields → Contents
first_contents [] = contents [] [] 0
first_contents (header ∷ rows) = contents header rows 1

-- a further file's records after its header follow the rows
abbrev pub further_contents : Contents → List Fields → Contents
further_contents table records = contents table.header (table.rows ++ rows_after_header records) (table.files + 1)

-- the table of one file, where all files may have `limit` fields
abbrev pub first_table_within : ℕ → List ℕ → Result Contents TableRefusal
first_table_within limit bytes = unless_refused (first_file_refusal limit (records_of bytes)) (first_contents (records_of bytes))

-- a table of some files with a further one, where all files may have `limit` fields
abbrev pub further_table_within : ℕ → Contents → List ℕ → Result Contents TableRefusal
further_table_within limit table bytes =
    unless_refused (further_file_refusal limit (fields_in table) table.header (records_of bytes))
    (further_contents table (records_of bytes))

-- a table with one more file, which may be its first
abbrev pub appended_within : ℕ → Contents → List ℕ → Result Contents TableRefusal
appended_within limit table bytes =
    if table.files == 0 then first_table_within limit bytes else further_table_within limit table bytes

-- a table with one more file, where all files may have `max_fields` fields
abbrev pub appended : Contents → List ℕ → Result Contents TableRefusal
appended table bytes = appended_within max_fields table bytes

-- a table with more files, one after another, unless there was a refusal
abbrev pub all_appended_within : ℕ → Result Contents TableRefusal → List (List ℕ) → Result Contents TableRefusal
all_appended_within limit table [] = table
all_appended_within limit (Err refusal) (bytes ∷ files) = Err refusal
all_appended_within limit (Ok table) (bytes ∷ files) = all_appended_within limit (appended_within limit table bytes) files

-- the table of these files, where all together may have `limit` fields, or the first refusal of the first file that has one
abbrev pub table_within : ℕ → List (List ℕ) → Result Contents TableRefusal
table_within limit files = all_appended_within limit (Ok (contents [] [] 0)) files

-- the table of these files, or the first refusal of the first file that has one
abbrev pub table_of : List (List ℕ) → Result Contents TableRefusal
table_of files = table_within max_fields files

-- the refusal in place of a table, if there is none
abbrev pub refusal_in : Result Contents TableRefusal → Option TableRefusal
refusal_in (Ok table) = None
refusal_in (Err refusal) = Some refusal

-- the first refusal of the first file that has one
abbrev pub first_table_refusal : List (List ℕ) → Option TableRefusal
first_table_refusal files = refusal_in (table_of files)

-- the texts of the column at this place from 0, row by row
abbrev pub texts_at : Contents → ℕ → List (List ℕ)
texts_at table place = map (λ fields. slice_index_or fields place []) table.rows

-- the texts of the first column of this name, if there is one
abbrev pub column_of : Contents → List ℕ → Option (List (List ℕ))
column_of table name = option_map (texts_at table) (position (λ field. bytes_eq field name) table.header)
