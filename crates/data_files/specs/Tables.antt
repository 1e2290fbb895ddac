-- The table of a call's data files, or why there is none.
-- Source: this project.
use Rattle.std.specs.Borrow.{Bor}
use Rattle.std.specs.Prelude.{ℕ, ◌+◌, ◌==◌, nat_le, if◌then◌else◌, List, [], ◌∷◌, length, map, Option, Some, None, Result}
use Rattle.std.specs.Prelude.{Ok, Err}
use Rattle.std.specs.FinMap.{get}
use Rattle.edge_io.specs.Reading.{Held}
use Rattle.column_input.specs.Table.{Contents, contents, appended}
use Rattle.column_input.specs.declared.refusal.TableRefusal.{TableRefusal}
use Rattle.column_input.specs.declared.refusal.TableRefusal.TheVariants as refused
use Rattle.data_files.specs.declared.stop.DataFile.{DataFile}
use Rattle.data_files.specs.declared.stop.DataFile.TheVariants as file
use Rattle.data_files.specs.declared.stop.DataRefusal.TheVariants as refusal
use Rattle.data_files.specs.declared.stop.DataStop.{DataStop}
use Rattle.data_files.specs.declared.stop.DataStop.TheVariants as stop

-- the most bytes of a data file
abbrev pub data_file_limit : ℕ
data_file_limit = 67108864

-- names as lists of bytes
abbrev pub names_seen : List (Bor (List ℕ)) → List (List ℕ)
names_seen names = map (λ name. name.now) names

-- what is told of a table's refusal
abbrev pub of_table : DataFile → TableRefusal → DataStop
of_table which refused.NoMemory = stop.NoMemory
of_table which why = stop.Refused (refusal.NoTable which why)

abbrev pub told : DataFile → Result Contents TableRefusal → Result Contents DataStop
told which (Ok table) = Ok table
told which (Err why) = Err (of_table which why)

-- a file, if it is held, taken into the table of the files before it, where it isn't too long
abbrev pub file_taken : DataFile → Contents → Option (List ℕ) → Result Contents DataStop
file_taken which table None = Err stop.NotHeld
file_taken which table (Some bytes) =
    if nat_le (length bytes) data_file_limit then told which (appended table bytes)
    else Err (stop.Refused (refusal.TooLong which))

-- which file of so many it is that so many stand before: the only one, or one of several by its number
abbrev pub file_at : ℕ → ℕ → DataFile
file_at count before = if count == 1 then file.Only else file.OneOf (before + 1)

-- what follows where there is a table
abbrev pub and_then : Result Contents DataStop → (Contents → Result Contents DataStop) → Result Contents DataStop
and_then (Ok table) next = next table
and_then (Err why) next = Err why

-- files of so many in all, so many standing before these, taken into the table of those before, in order up to the first that
-- can't be
abbrev pub files_taken : ℕ → ℕ → Contents → List (List ℕ) → Held → Result Contents DataStop
files_taken count before table [] held = Ok table
files_taken count before table (name ∷ names) held =
    and_then (file_taken (file_at count before) table (get held name)) (λ next. files_taken count (before + 1) next names held)

-- the table of the files of these names, or why there is none
abbrev pub data_table : List (List ℕ) → Held → Result Contents DataStop
data_table names held = files_taken (length names) 0 (contents [] [] 0) names held
