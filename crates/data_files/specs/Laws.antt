-- Laws of the table of a call's data files: where all of them are held and short, it is the table of the list of their bytes.
-- Source: this project; what the table of several files is, is defined in column_input.
use Rattle.std.specs.Prelude.{◌≡◌, ◌≤◌, ◌+◌, ℕ, List, [], ◌∷◌, length, take, Some, Ok, Err, IsOk}
use Rattle.std.specs.FinMap.{get}
use Rattle.edge_io.specs.Reading.{Held}
use Rattle.column_input.specs.Table.{Contents, table_of}
use Rattle.column_input.specs.declared.refusal.TableRefusal.{TableRefusal}
use Rattle.data_files.specs.Tables.{data_file_limit, data_table, file_at, of_table}

-- each of these names holds the file at its place, and no file is over the limit
abbrev pub HoldShort : Held → List (List ℕ) → List (List ℕ) → Type 0
HoldShort held [] [] = Unit {0}
HoldShort held [] (bytes ∷ files) = ⊥
HoldShort held (name ∷ names) [] = ⊥
HoldShort held (name ∷ names) (bytes ∷ files) =
    (get held name ≡ Some bytes) × (length bytes ≤ data_file_limit) × HoldShort held names files

-- the first so many of the files are one table, and with the next one they are refused for this reason
abbrev pub IsRefusedAt : List (List ℕ) → ℕ → TableRefusal → Type 0
IsRefusedAt files before why = IsOk (table_of (take before files)) × (table_of (take (before + 1) files) ≡ Err why)

-- where all files are held and short, and they are one table, it is the table of their names
abbrev pub HeldFilesAreOneTable : Type 0
HeldFilesAreOneTable = (names files : List (List ℕ)) (held : Held) (table : Contents) →
    HoldShort held names files → table_of files ≡ Ok table → data_table names held ≡ Ok table

-- where they are none, the reason is that of the list of files, and it is told of the file at which it comes
abbrev pub RefusalsAreToldOfTheirFile : Type 0
RefusalsAreToldOfTheirFile = (names files : List (List ℕ)) (held : Held) (why : TableRefusal) →
    HoldShort held names files → table_of files ≡ Err why →
    (before : ℕ) × IsRefusedAt files before why × (data_table names held ≡ Err (of_table (file_at (length names) before) why))
