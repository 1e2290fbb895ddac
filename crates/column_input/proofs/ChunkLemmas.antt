-- Rows that are cut from one list of fields.
use Rattle.std.proofs.Common.{◌≡◌, ◌∙◌, ◌<◌, ◌≤◌, ◌+◌, ◌*◌, ◌++◌, ℕ, zero, suc, List, [], ◌∷◌, Option, Some, None, Result, Ok, Err, false, length, take, drop, refl, ap, arith, append_assoc, length-append, length-drop}
use Rattle.std.proofs.Math.Nat.{mul-le-mul_left}
use Rattle.std.proofs.Math.Seq.{take-length}
use Rattle.std.specs.Borrow.{Bor}
use Rattle.std.specs.Option.{IsSome}
use Rattle.std.specs.Result.{OnOk, is_err}
use Rattle.std.specs.Prelude.{option_map, slice_get}
use Rattle.csv.specs.Records.{field_at}
use Rattle.column_input.specs.Chunk.{Grid, cell_at, grid, rows_of}
use Rattle.column_input.specs.Limits.{max_fields}
use Rattle.column_input.specs.Records.{Fields}

pub length-rows_of : (width count : ℕ) (fields : Fields) → length (rows_of width count fields) ≡ count
length-rows_of width zero fields = refl
length-rows_of width (suc count) fields = ap suc (length-rows_of width count (drop width fields))

-- what `csv` calls the field at a place
pub field_at-slice_get : (fields : Fields) (place : ℕ) → field_at fields place ≡ slice_get fields place
unfolding field_at
field_at-slice_get [] place = refl
field_at-slice_get (field ∷ fields) zero = refl
field_at-slice_get (field ∷ fields) (suc place) = field_at-slice_get fields place

-- a row and its fields are found in the list of fields
slice_get-take : (width : ℕ) (fields : Fields) (place : ℕ) → place < width → slice_get (take width fields) place ≡ slice_get fields place
slice_get-take zero fields place below = absurd (omega arith)
slice_get-take (suc width) [] place below = refl
slice_get-take (suc width) (field ∷ fields) zero below = refl
slice_get-take (suc width) (field ∷ fields) (suc place) below = slice_get-take width fields place (omega arith)

slice_get-drop : (width : ℕ) (fields : Fields) (place : ℕ) → slice_get (drop width fields) place ≡ slice_get fields (width + place)
slice_get-drop zero fields place = grind arith
slice_get-drop (suc width) [] place = refl
slice_get-drop (suc width) (field ∷ fields) place = let next : suc width + place ≡ suc (width + place) = omega arith in rw next (slice_get-drop width fields place)

pub cell_at-rows_of : (width count : ℕ) (fields : Fields) (row column : ℕ) → row < count → column < width
    → cell_at (rows_of width count fields) row column ≡ slice_get fields (row * width + column)
cell_at-rows_of width zero fields row column in_rows in_row = absurd (omega arith)
cell_at-rows_of width (suc count) fields zero column in_rows in_row =
    let place : zero * width + column ≡ column = omega arith in
    rw place (slice_get-take width fields column in_row)
cell_at-rows_of width (suc count) fields (suc row) column in_rows in_row =
    let place : suc row * width + column ≡ width + (row * width + column) = grind arith in
    cell_at-rows_of width count (drop width fields) row column (omega arith) in_row
    ∙ rw place (slice_get-drop width fields (row * width + column))

-- a cell's place is within the fields
pub place_within : (width count row column : ℕ) → row < count → column < width → row * width + column < count * width
place_within width zero row column in_rows in_row = absurd (omega arith)
place_within width (suc count) zero column in_rows in_row = grind arith
place_within width (suc count) (suc row) column in_rows in_row =
    let earlier = place_within width count row column (omega arith) in_row in
    grind arith

-- one more row
take-front : (width : ℕ) (fields row : Fields) → width ≤ length fields → take width (fields ++ row) ≡ take width fields
take-front zero fields row fits = refl
take-front (suc width) [] row fits = absurd (omega arith)
take-front (suc width) (field ∷ fields) row fits = ap (λ (rest : Fields). field ∷ rest) (take-front width fields row (omega arith))

drop-front : (width : ℕ) (fields row : Fields) → width ≤ length fields → drop width (fields ++ row) ≡ drop width fields ++ row
drop-front zero fields row fits = refl
drop-front (suc width) [] row fits = absurd (omega arith)
drop-front (suc width) (field ∷ fields) row fits = drop-front width fields row (omega arith)

pub rows_of-append : (width count : ℕ) (fields row : Fields) → length fields ≡ count * width → length row ≡ width
    → rows_of width (count + 1) (fields ++ row) ≡ rows_of width count fields ++ row ∷ []
rows_of-append width zero [] row whole full = rw (← full, take-length row) refl
rows_of-append width zero (field ∷ fields) row whole full = absurd (omega arith)
rows_of-append width (suc count) fields row whole full =
    let more : suc count + 1 ≡ suc (count + 1) = omega arith in
    let fits : width ≤ length fields = grind arith in
    let left : length (drop width fields) ≡ count * width = grind (arith, length-drop) in
    rw (more, take-front width fields row fits, drop-front width fields row fits)
    (ap (λ (rest : List Fields). take width fields ∷ rest) (rows_of-append width count (drop width fields) row left full))

-- the next field follows those before it
pub take-next : (fields : Fields) (place : ℕ) (field : List ℕ) → Some field ≡ field_at fields place → take (place + 1) fields ≡ take place fields ++ field ∷ []
unfolding field_at
take-next [] place field e = cc e
take-next (first ∷ fields) zero field e = let same : field ≡ first = cc e in rw same refl
take-next (first ∷ fields) (suc place) field e =
    let more : suc place + 1 ≡ suc (place + 1) = omega arith in
    rw more (ap (λ (rest : Fields). first ∷ rest) (take-next fields place field e))

pub next_appended : (before now more row : Fields) (place place2 : ℕ) (field : List ℕ) → now ≡ before ++ take place row → more ≡ now ++ field ∷ []
    → Some field ≡ field_at row place → place2 ≡ place + 1 → more ≡ before ++ take place2 row
next_appended before now more row place place2 field so_far after there next =
    rw (after, so_far, next, take-next row place field there) (append_assoc before (take place row) (field ∷ []))

pub take-past : (fields : Fields) (place : ℕ) → None ≡ field_at fields place → take place fields ≡ fields
unfolding field_at
take-past [] zero e = refl
take-past [] (suc place) e = refl
take-past (first ∷ fields) zero e = cc e
take-past (first ∷ fields) (suc place) e = ap (λ (rest : Fields). first ∷ rest) (take-past fields place e)

-- what is there as a value is there as a reference
pub some_behind : (found : Option (Bor (List ℕ))) (field : List ℕ) → option_map (λ s. s.now) found ≡ Some field → IsSome found
some_behind None field e = cc e
some_behind (Some s) field e = refl

-- a cell of a grid is a field of the list that it is cut from
pub place_below : (width count : ℕ) (fields : Fields) (cut : Grid) (row column : ℕ) → grid width (rows_of width count fields) ≡ cut
    → length fields ≡ count * width → row < length cut.rows → column < cut.width → row * width + column < length fields
place_below width count fields cut row column is whole in_rows in_row =
    rw whole (place_within width count row column (rw (← is, length-rows_of) at in_rows) (rw (← is) at in_row))

pub cell_found : (width count : ℕ) (fields : Fields) (cut : Grid) (row column : ℕ) → grid width (rows_of width count fields) ≡ cut
    → row < length cut.rows → column < cut.width → cell_at cut.rows row column ≡ slice_get fields (row * width + column)
cell_found width count fields cut row column is in_rows in_row =
    rw (← is) (cell_at-rows_of width count fields row column (rw (← is, length-rows_of) at in_rows) (rw (← is) at in_row))

-- one more row of a grid
pub grid_more : (width count : ℕ) (fields more row : Fields) (cut : Grid) → grid width (rows_of width count fields) ≡ cut
    → length fields ≡ count * width → length row ≡ cut.width → more ≡ fields ++ row
    → grid width (rows_of width (count + 1) more) ≡ grid cut.width (cut.rows ++ row ∷ [])
grid_more width count fields more row cut is whole full after =
    rw (← is, after, rows_of-append width count fields row whole (rw (← is) at full)) refl

pub whole_more : (width count : ℕ) (fields more row : Fields) (cut : Grid) → grid width (rows_of width count fields) ≡ cut
    → length fields ≡ count * width → length row ≡ cut.width → more ≡ fields ++ row → length more ≡ (count + 1) * width
whole_more width count fields more row cut is whole full after =
    let wide : length row ≡ width = rw (← is) at full in
    rw after (grind (arith, length-append fields row))

pub limit_more : (width count : ℕ) (fields : Fields) (cut : Grid) → grid width (rows_of width count fields) ≡ cut
    → (length cut.rows + 1) * cut.width ≤ max_fields → (count + 1) * width ≤ max_fields
limit_more width count fields cut is limit = rw (← is, length-rows_of) at limit

pub count_fits : (width count : ℕ) → 0 < width → (count + 1) * width ≤ max_fields → count + 1 ≤ max_fields
count_fits width count some limit = let at_least = mul-le-mul_left (count + 1) some in omega arith

-- what holds of a result that is no error
pub appended : {E : Type 0} (result : Result (Unit {0}) E) (holds : Type 0) → is_err result ≡ false → OnOk result holds → holds
appended (Ok x) holds e h = h
appended (Err x) holds e h = cc e
