-- Laws of tables and of their records.
-- Source: RFC 4180 and the records of `csv`; several files under one header are this project's.
use Rattle.std.specs.Prelude.{◌≡◌, ◌↔◌, ◌++◌, ◌∷◌, [], ℕ, List, None, Ok, Err}
use Rattle.csv.specs.Reading.{AreRecords, default_config, strip_bom}
use Rattle.csv.specs.declared.parser.State.TheVariants as st
use Rattle.column_input.specs.Records.{Fields, records_of}
use Rattle.column_input.specs.Refusals.{first_difference}
use Rattle.column_input.specs.Table.{Contents, appended, table_of}
use Rattle.column_input.specs.Whole.{HoldsFiles, IsWhole}
use Rattle.column_input.specs.declared.refusal.TableRefusal.{TableRefusal}

-- the records of a text are what is read of it, one after another, until what is left has none, as a text of empty lines has
abbrev pub RecordsTakeTheWholeText : Type 0
RecordsTakeTheWholeText = (bytes : List ℕ) → AreRecords default_config st.StartRecord (strip_bom bytes) (records_of bytes)

-- a table that was read is whole
abbrev pub TablesAreWhole : Type 0
TablesAreWhole = (first : List ℕ) (further : List (List ℕ)) (table : Contents) →
    table_of (first ∷ further) ≡ Ok table → IsWhole table

-- it holds the files that it was read from
abbrev pub TablesHoldTheirFiles : Type 0
TablesHoldTheirFiles =
    (first : List ℕ) (further : List (List ℕ)) (table : Contents) →
    table_of (first ∷ further) ≡ Ok table → HoldsFiles table (first ∷ further)

-- the table of one more file is the table with that file appended
abbrev pub OneMoreFileIsAppended : Type 0
OneMoreFileIsAppended =
    (files : List (List ℕ)) (more : List ℕ) (table : Contents) →
    table_of files ≡ Ok table → table_of (files ++ more ∷ []) ≡ appended table more

-- the first refusal of the first file that has one stays, whatever files follow
abbrev pub TheFirstRefusalStays : Type 0
TheFirstRefusalStays =
    (files more : List (List ℕ)) (refusal : TableRefusal) → table_of files ≡ Err refusal → table_of (files ++ more) ≡ Err refusal

-- two lists of fields differ nowhere exactly where they are equal
abbrev pub DifferNowhereWhereEqual : Type 0
DifferNowhereWhereEqual = (names fields : Fields) → (first_difference names fields ≡ None) ↔ (names ≡ fields)
