-- The first refusal of the rows of a file, as they are read one after another.
use Rattle.std.proofs.Common.{◌≡◌, ◌≢◌, ◌∙◌, ◌≤◌, ◌+◌, ◌*◌, ◌++◌, ℕ, suc, List, [], ◌∷◌, Bool, true, false, Some, None, Result, Ok, Err, length, refl, sym, ap, arith, append_assoc, eq-eqb, length-append}
use Rattle.std.proofs.Math.Seq.{take-append-add}
use Rattle.std.proofs.lemmas.Bool.{ltb-false, ne_eqb}
use Rattle.std.proofs.lemmas.List.Sums.{sum_by-append, sum_by-cons}
use Rattle.std.proofs.lemmas.Str.{IsUtf8-from_is_utf8, is_utf8-from_IsUtf8}
use Rattle.std.specs.List.{enumerate_from, filter_map, list_all}
use Rattle.std.specs.Prelude.{◌==◌, ◌&&◌, if◌then◌else◌, nat_lt, slice_get, sum_by}
use Rattle.std.specs.Result.{IsErrAnd}
use Rattle.std.specs.Str.{is_utf8}
use Rattle.csv.specs.Records.{AllText}
use Rattle.column_input.specs.Records.{Fields, StartsNotUtf8}
use Rattle.column_input.specs.Refusals.{fields_up_to, row_refusal, row_refusals}
use Rattle.column_input.specs.declared.refusal.TableRefusal.{TableRefusal}
use Rattle.column_input.specs.declared.refusal.TableRefusal.TheVariants as refused

-- `AllText` as a test
pub text_passes : (fields : Fields) → AllText fields → list_all is_utf8 fields ≡ true
unfolding AllText
text_passes [] text = refl
text_passes (field ∷ fields) text = rw (is_utf8-from_IsUtf8 field text.0) (text_passes fields text.1)

pub passes_text : (fields : Fields) → list_all is_utf8 fields ≡ true → AllText fields
unfolding AllText
passes_text [] passes = tt
passes_text (field ∷ fields) passes = by (is_utf8 field) refl passes (passes_text fields)
  where
    by : (b : Bool) → is_utf8 field ≡ b → (b && list_all is_utf8 fields) ≡ true → (list_all is_utf8 fields ≡ true → AllText fields)
        → AllText (field ∷ fields)
    by true text passes rest = (IsUtf8-from_is_utf8 field text, rest passes)
    by false text passes rest = cc passes

pub no_text_fails : (fields : Fields) → ¬ (AllText fields) → list_all is_utf8 fields ≡ false
no_text_fails fields no_text = by (list_all is_utf8 fields) refl
  where
    by : (b : Bool) → list_all is_utf8 fields ≡ b → b ≡ false
    by true passes = absurd (no_text (passes_text fields passes))
    by false passes = refl

-- the rows `done` of all were read with no refusal, and `left` are yet to be read
pub record Reading (limit before width : ℕ) (all done left : List Fields) : Type 0 where
  pub split : all ≡ done ++ left
  pub within : before + (length done + 1) * width ≤ limit
  pub even : sum_by length done ≡ length done * width
  pub clear : (header : Fields) → length header ≡ width
      → row_refusals limit before header all ≡ filter_map (row_refusal limit before header all) (enumerate_from (length done + 2) left)

-- the fields up to and with the next row
next_total : (limit before width : ℕ) (all done left : List Fields) (header row : Fields) → Reading limit before width all done (row ∷ left) → length header ≡ width
    → length row ≡ width → fields_up_to (header ∷ all) (length done + 2) ≡ (length done + 2) * width
next_total limit before width all done left header row reading wide full =
    let place : length done + 2 ≡ suc (length done + 1) = omega arith in
    let even = reading.even in
    rw (reading.split, place, take-append-add done (row ∷ left) 1, sum_by-cons {X = List (List ℕ)} length header (done ++ row ∷ []), sum_by-append {X = List (List ℕ)} length done (row ∷ []), even, wide, full) (grind arith)

-- what is wrong with the next row
pub next_not_utf8 : (limit before number : ℕ) (header row : Fields) (all : List Fields) → ¬ (AllText row) → row_refusal limit before header all (number, row) ≡ Some (refused.NotUtf8 number)
next_not_utf8 limit before number header row all no_text = rw (no_text_fails row no_text) refl

pub next_ragged : (limit before number : ℕ) (header row : Fields) (all : List Fields) → AllText row → length row ≢ length header
    → row_refusal limit before header all (number, row) ≡ Some (refused.Ragged number (length row) (length header))
next_ragged limit before number header row all text ragged = rw (text_passes row text, ne_eqb (length row) (length header) ragged) refl

pub next_even : (limit before : ℕ) (header row : Fields) (all done left : List Fields) → AllText row → length row ≡ length header → Reading limit before (length header) all done (row ∷ left)
    → row_refusal limit before header all (length done + 2, row) ≡ (if nat_lt limit (before + (length done + 2) * length header) then Some (refused.TooManyFields (length done + 2) limit) else None)
next_even limit before header row all done left text full reading =
    let same : (length row == length header) ≡ true = eq-eqb _ _ full in
    rw (text_passes row text, same, next_total limit before _ all done left header row reading refl full) refl

-- a refusal of the next row is the first
pub first_found : (limit before width : ℕ) (all done left : List Fields) (row : Fields) (refusal : TableRefusal) → Reading limit before width all done (row ∷ left)
    → ((header : Fields) → length header ≡ width → row_refusal limit before header all (length done + 2, row) ≡ Some refusal)
    → (header : Fields) → length header ≡ width → slice_get (row_refusals limit before header all) 0 ≡ Some refusal
first_found limit before width all done left row refusal reading wrong header wide = rw (reading.clear header wide, wrong header wide) refl

-- a row of the right length that keeps the limit has none
next_fine : (limit before : ℕ) (header row : Fields) (all done left : List Fields) → AllText row → length row ≡ length header → Reading limit before (length header) all done (row ∷ left)
    → nat_lt limit (before + (length done + 2) * length header) ≡ false → row_refusal limit before header all (length done + 2, row) ≡ None
next_fine limit before header row all done left text full reading kept =
    next_even limit before header row all done left text full reading ∙ rw kept refl

pub next_over : (limit before : ℕ) (header row : Fields) (all done left : List Fields) → AllText row → length row ≡ length header → Reading limit before (length header) all done (row ∷ left)
    → nat_lt limit (before + (length done + 2) * length header) ≡ true → row_refusal limit before header all (length done + 2, row) ≡ Some (refused.TooManyFields (length done + 2) limit)
next_over limit before header row all done left text full reading over =
    next_even limit before header row all done left text full reading ∙ rw over refl

-- a row with no refusal is read
pub read_on : (limit before width : ℕ) (all done left : List Fields) (row : Fields) → Reading limit before width all done (row ∷ left) → AllText row → length row ≡ width
    → nat_lt limit (before + (length done + 2) * width) ≡ false → Reading limit before width all (done ++ row ∷ []) left
read_on limit before width all done left row reading text full kept =
    let fits : before + (length done + 2) * width ≤ limit = ltb-false _ _ kept in
    let next : length done + 1 + 2 ≡ length done + 2 + 1 = omega arith in
    record {
      split = reading.split ∙ sym (append_assoc done (row ∷ []) left);
      within = let count : length done + 1 + 1 ≡ length done + 2 = omega arith in rw (length-append done (row ∷ []), count) fits;
      even = rw (sum_by-append {X = List (List ℕ)} length done (row ∷ []), length-append done (row ∷ []), reading.even, full) (grind arith);
      clear = λ header wide. rw (reading.clear header wide, next_fine limit before header row all done left text (full ∙ sym wide) (rw wide reading) (rw wide kept), length-append done (row ∷ []), next) refl;
    }

-- nothing is read yet
pub read_none : (limit before width : ℕ) (all : List Fields) → before + width ≤ limit → Reading limit before width all [] all
read_none limit before width all fits = record { split = refl; within = omega arith; even = grind arith; clear = λ header wide. refl }

-- the refusals of one row, as the reading meets them
pub refused_text : (limit before width : ℕ) (all done left : List Fields) → Reading limit before width all done left → StartsNotUtf8 left
    → (header : Fields) → length header ≡ width → slice_get (row_refusals limit before header all) 0 ≡ Some (refused.NotUtf8 (length done + 2))
refused_text limit before width all done [] reading no_text header wide = absurd no_text
refused_text limit before width all done (row ∷ left) reading no_text header wide =
    first_found limit before width all done left row (refused.NotUtf8 (length done + 2)) reading (λ h w. next_not_utf8 limit before (length done + 2) h row all no_text) header wide

pub refused_length : (limit before width : ℕ) (all done left : List Fields) (row : Fields) → Reading limit before width all done (row ∷ left) → AllText row → length row ≢ width
    → (header : Fields) → length header ≡ width
    → slice_get (row_refusals limit before header all) 0 ≡ Some (refused.Ragged (length done + 2) (length row) width)
refused_length limit before width all done left row reading text ragged header wide =
    first_found limit before width all done left row (refused.Ragged (length done + 2) (length row) width) reading
    (λ h w. rw (← w) (next_ragged limit before (length done + 2) h row all text (λ e. ragged (e ∙ w)))) header wide

pub refused_limit : (limit before width : ℕ) (all done left : List Fields) (row : Fields) → Reading limit before width all done (row ∷ left) → AllText row → length row ≡ width
    → nat_lt limit (before + (length done + 2) * width) ≡ true → (header : Fields) → length header ≡ width
    → slice_get (row_refusals limit before header all) 0 ≡ Some (refused.TooManyFields (length done + 2) limit)
refused_limit limit before width all done left row reading text full over header wide =
    first_found limit before width all done left row (refused.TooManyFields (length done + 2) limit) reading
    (λ h w. next_over limit before h row all done left text (full ∙ sym w) (rw w reading) (rw w over)) header wide

-- an error that was handed on is the same error
pub handed_on : {T : Type 0} (result : Result T TableRefusal) (refusal : TableRefusal) → IsErrAnd result (λ e. e ≡ refusal) → result ≡ Err refusal
handed_on (Ok x) refusal h = absurd h
handed_on (Err e) refusal h = ap Err h
