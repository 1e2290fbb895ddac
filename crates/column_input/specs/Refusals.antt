-- The first refusal of a file that is read into a table.
-- Source: the limits and the order of refusals are this project's.
use Rattle.std.specs.List.{enumerate_from, filter_map, list_all}
use Rattle.std.specs.Prelude.{◌==◌, ◌+◌, ℕ, List, [], ◌∷◌, not, Option, Some, None, if◌then◌else◌, length, nat_lt, slice_get}
use Rattle.std.specs.Prelude.{sum_by, take}
use Rattle.std.specs.Str.{bytes_eq, is_utf8}
use Rattle.column_input.specs.Limits.{max_columns}
use Rattle.column_input.specs.Records.{Fields}
use Rattle.column_input.specs.declared.refusal.TableRefusal.{TableRefusal}
use Rattle.column_input.specs.declared.refusal.TableRefusal.TheVariants as refused

-- the first place, counted on from `place`, where two lists of fields differ: a field that is another, or the place after the
-- end of the one that ends first
abbrev pub difference_from : ℕ → Fields → Fields → Option ℕ
difference_from place [] [] = None
difference_from place [] (field ∷ fields) = Some place
difference_from place (name ∷ names) [] = Some place
difference_from place (name ∷ names) (field ∷ fields) =
    if bytes_eq name field then difference_from (place + 1) names fields else Some place

-- the first place, from 1, where two lists of fields differ, if they do
abbrev pub first_difference : Fields → Fields → Option ℕ
first_difference names fields = difference_from 1 names fields

-- how many fields the records up to and with this number have together
abbrev pub fields_up_to : List Fields → ℕ → ℕ
fields_up_to records number = sum_by length (take number records)

-- what is wrong with the header of the first file: the first of these that applies
abbrev pub header_refusal : ℕ → Fields → Option TableRefusal
header_refusal limit header =
    if not (list_all is_utf8 header) then Some (refused.NotUtf8 1)
    else if nat_lt max_columns (length header) then Some (refused.TooManyColumns (length header))
    else if nat_lt limit (length header) then Some (refused.TooManyFields 1 limit)
    else None

-- a header that differs is refused, another one only where there are too many fields
abbrev pub differs_or : Option ℕ → Option TableRefusal → Option TableRefusal
differs_or (Some field) other = Some (refused.HeaderDiffers field)
differs_or None other = other

-- what is wrong with the header of a further file, under a table's header and after `before` fields: the first that applies
abbrev pub further_header_refusal : ℕ → ℕ → Fields → Fields → Option TableRefusal
further_header_refusal limit before names header =
    if not (list_all is_utf8 header) then Some (refused.NotUtf8 1)
    else differs_or (first_difference names header)
    (if nat_lt limit (before + length header) then Some (refused.TooManyFields 1 limit) else None)

-- what is wrong with a record after its file's header, by its number, from 2, and its fields: the first that applies. The files
-- before have `before` fields
abbrev pub row_refusal : ℕ → ℕ → Fields → List Fields → ℕ × Fields → Option TableRefusal
row_refusal limit before header rows (number, fields) =
    if not (list_all is_utf8 fields) then Some (refused.NotUtf8 number)
    else if not (length fields == length header) then Some (refused.Ragged number (length fields) (length header))
    else if nat_lt limit (before + fields_up_to (header ∷ rows) number) then Some (refused.TooManyFields number limit)
    else None

-- the refusals of the rows under a header, row by row
abbrev pub row_refusals : ℕ → ℕ → Fields → List Fields → List TableRefusal
row_refusals limit before header rows = filter_map (row_refusal limit before header rows) (enumerate_from 2 rows)

-- a refusal of the header, or else the first of the rows
abbrev pub header_first : Option TableRefusal → List TableRefusal → Option TableRefusal
header_first (Some refusal) refusals = Some refusal
header_first None refusals = slice_get refusals 0

-- the first refusal of the first file, by its records, where all files may have `limit` fields: that of the least record that
-- has one
abbrev pub first_file_refusal : ℕ → List Fields → Option TableRefusal
first_file_refusal limit [] = Some refused.NoHeader
first_file_refusal limit (header ∷ rows) = header_first (header_refusal limit header) (row_refusals limit 0 header rows)

-- the same of a further file, under a table's header and after `before` fields
abbrev pub further_file_refusal : ℕ → ℕ → Fields → List Fields → Option TableRefusal
further_file_refusal limit before names [] = Some refused.NoHeader
further_file_refusal limit before names (header ∷ rows) =
    header_first (further_header_refusal limit before names header) (row_refusals limit before header rows)
