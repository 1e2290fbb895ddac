-- What is wrong with the first record of a file, and where a header differs from another.
use Rattle.std.proofs.Common.{◌≡◌, ◌<◌, ◌≤◌, ◌+◌, ℕ, zero, suc, List, [], ◌∷◌, Bool, true, false, Option, Some, None, Ok, Err, length, drop, refl, sym, arith}
use Rattle.std.proofs.lemmas.Bool.{le-ltb, lt-ltb}
use Rattle.std.proofs.lemmas.List.{drop_all}
use Rattle.std.proofs.lemmas.Slice.Eq.{bytes_eq-Decides}
use Rattle.std.specs.Borrow.{Bor}
use Rattle.std.specs.Option.{option_eq}
use Rattle.std.specs.Prelude.{if◌then◌else◌, nat_lt, not, option_map, slice_get}
use Rattle.std.specs.Str.{bytes_eq}
use Rattle.csv.specs.Records.{AllText, field_at}
use Rattle.column_input.proofs.TableLemmas.{no_text_fails, text_passes}
use Rattle.column_input.specs.Limits.{max_columns}
use Rattle.column_input.specs.Records.{Fields, StartsNotUtf8}
use Rattle.column_input.specs.Refusals.{difference_from, first_difference, first_file_refusal, further_file_refusal, further_header_refusal, header_refusal, row_refusals}
use Rattle.column_input.specs.Table.{Contents, contents, fields_in, first_contents, further_contents, unless_refused}
use Rattle.column_input.specs.declared.refusal.TableRefusal.{TableRefusal}
use Rattle.column_input.specs.declared.refusal.TableRefusal.TheVariants as refused

-- a test that is turned
pub not_true : (b : Bool) → not b ≡ true → b ≡ false
not_true true e = cc e
not_true false e = refl

pub not_false : (b : Bool) → not b ≡ false → b ≡ true
not_false true e = refl
not_false false e = cc e

-- what a comparison of two fields that were found says of the fields
pub fields_compared : (x y : Option (Bor (List ℕ))) (name field : Option (List ℕ)) → option_map (λ s. s.now) x ≡ name → option_map (λ s. s.now) y ≡ field
    → option_eq (λ a b. bytes_eq a.now b.now) x y ≡ option_eq bytes_eq name field
fields_compared None None name field e f = rw (← e, ← f) refl
fields_compared None (Some y) name field e f = rw (← e, ← f) refl
fields_compared (Some x) None name field e f = rw (← e, ← f) refl
fields_compared (Some x) (Some y) name field e f = rw (← e, ← f) refl

drop_none : (place : ℕ) → ◌≡◌ {A = Fields} (drop place []) []
drop_none place = drop_all place [] (omega arith)

-- past the end of both they don't differ
pub ends_alike : (start place : ℕ) (names fields : Fields) → length names ≤ place → length fields ≤ place
    → difference_from start (drop place names) (drop place fields) ≡ None
ends_alike start place names fields past past2 = rw (drop_all place names past, drop_all place fields past2) refl

-- where both have the same field, they first differ further on
pub same_further : (start place : ℕ) (names fields : Fields) → option_eq bytes_eq (field_at names place) (field_at fields place) ≡ true
    → difference_from start (drop place names) (drop place fields) ≡ difference_from (start + 1) (drop (place + 1) names) (drop (place + 1) fields)
unfolding field_at
same_further start zero [] [] e = refl
same_further start zero [] (field ∷ fields) e = cc e
same_further start zero (name ∷ names) [] e = cc e
same_further start zero (name ∷ names) (field ∷ fields) e = rw e refl
same_further start (suc place) [] [] e = sym (ends_alike (start + 1) (suc place + 1) [] [] (omega arith) (omega arith))
same_further start (suc place) [] (field ∷ fields) e =
    let next : suc place + 1 ≡ suc (place + 1) = omega arith in
    rw next (rw (drop_none place, drop_none (place + 1)) at (same_further start place [] fields e))
same_further start (suc place) (name ∷ names) [] e =
    let next : suc place + 1 ≡ suc (place + 1) = omega arith in
    rw next (rw (drop_none place, drop_none (place + 1)) at (same_further start place names [] e))
same_further start (suc place) (name ∷ names) (field ∷ fields) e =
    let next : suc place + 1 ≡ suc (place + 1) = omega arith in
    rw next (same_further start place names fields e)

-- where they have not, they differ there
pub differs_here : (start place : ℕ) (names fields : Fields) → option_eq bytes_eq (field_at names place) (field_at fields place) ≡ false
    → difference_from start (drop place names) (drop place fields) ≡ Some start
unfolding field_at
differs_here start zero [] [] e = cc e
differs_here start zero [] (field ∷ fields) e = refl
differs_here start zero (name ∷ names) [] e = refl
differs_here start zero (name ∷ names) (field ∷ fields) e = rw e refl
differs_here start (suc place) [] [] e = cc e
differs_here start (suc place) [] (field ∷ fields) e = rw (drop_none place) at (differs_here start place [] fields e)
differs_here start (suc place) (name ∷ names) [] e = rw (drop_none place) at (differs_here start place names [] e)
differs_here start (suc place) (name ∷ names) (field ∷ fields) e = differs_here start place names fields e

-- lists that don't differ are equal
pub no_difference : (start : ℕ) (names fields : Fields) → difference_from start names fields ≡ None → names ≡ fields
no_difference start [] [] e = refl
no_difference start [] (field ∷ fields) e = cc e
no_difference start (name ∷ names) [] e = cc e
no_difference start (name ∷ names) (field ∷ fields) e = by (bytes_eq name field) refl e (no_difference (start + 1) names fields)
  where
    by : (b : Bool) → bytes_eq name field ≡ b → ◌≡◌ {A = Option ℕ} (if b then difference_from (start + 1) names fields else Some start) None
        → (difference_from (start + 1) names fields ≡ None → names ≡ fields) → name ∷ names ≡ field ∷ fields
    by false same e more = cc e
    by true same e more =
        let first : name ≡ field = (bytes_eq-Decides name field).0 same in
        rw (first, more e) refl

-- equal lists don't differ
pub same_alike : (start : ℕ) (names : Fields) → difference_from start names names ≡ None
same_alike start [] = refl
same_alike start (name ∷ names) = rw ((bytes_eq-Decides name name).1 refl) (same_alike (start + 1) names)

-- a first record that isn't UTF-8 is refused first, in a first file and in a further one
pub first_not_utf8 : (limit before : ℕ) (names : Fields) (records : List Fields) → StartsNotUtf8 records
    → (first_file_refusal limit records ≡ Some (refused.NotUtf8 1)) × (further_file_refusal limit before names records ≡ Some (refused.NotUtf8 1))
first_not_utf8 limit before names [] no_text = absurd no_text
first_not_utf8 limit before names (header ∷ rows) no_text = (rw (no_text_fails header no_text) refl, rw (no_text_fails header no_text) refl)

-- the same of a header that is too wide, and of one that has too many fields
pub too_wide : (limit : ℕ) (records rows : List Fields) (header : Fields) → records ≡ header ∷ rows → AllText header → max_columns < length header
    → first_file_refusal limit records ≡ Some (refused.TooManyColumns (length header))
too_wide limit records rows header is text wide = rw (is, text_passes header text, lt-ltb _ _ wide) refl

pub too_many : (limit : ℕ) (records rows : List Fields) (header : Fields) → records ≡ header ∷ rows → AllText header → length header ≤ max_columns
    → limit < length header → first_file_refusal limit records ≡ Some (refused.TooManyFields 1 limit)
too_many limit records rows header is text narrow over = rw (is, text_passes header text, le-ltb _ _ narrow, lt-ltb _ _ over) refl

header_fine : (limit : ℕ) (header : Fields) → AllText header → length header ≤ max_columns → length header ≤ limit → header_refusal limit header ≡ None
header_fine limit header text narrow fits = rw (text_passes header text, le-ltb _ _ narrow, le-ltb _ _ fits) refl

-- the same of a further file's header
pub further_differs : (limit before field : ℕ) (names header : Fields) (records rows : List Fields) → records ≡ header ∷ rows → AllText header
    → first_difference names header ≡ Some field → further_file_refusal limit before names records ≡ Some (refused.HeaderDiffers field)
further_differs limit before field names header records rows is text differs = rw (is, text_passes header text, differs) refl

pub further_too_many : (limit before : ℕ) (names header : Fields) (records rows : List Fields) → records ≡ header ∷ rows → AllText header
    → first_difference names header ≡ None → nat_lt limit (before + length names) ≡ true → further_file_refusal limit before names records ≡ Some (refused.TooManyFields 1 limit)
further_too_many limit before names header records rows is text same over =
    let equal = no_difference 1 names header same in
    rw (is, text_passes header text, same, ← equal, over) refl

further_fine : (limit before : ℕ) (names : Fields) → AllText names → before + length names ≤ limit → further_header_refusal limit before names names ≡ None
further_fine limit before names text fits = rw (text_passes names text, same_alike 1 names, le-ltb _ _ fits) refl

-- where the first file's header is fine, its first refusal is that of the rows
pub first_refused : (limit : ℕ) (records rows : List Fields) (header : Fields) (refusal : TableRefusal) → records ≡ header ∷ rows → AllText header
    → length header ≤ max_columns → length header ≤ limit → slice_get (row_refusals limit 0 header rows) 0 ≡ Some refusal
    → unless_refused (first_file_refusal limit records) (first_contents records) ≡ Err refusal
first_refused limit records rows header refusal is text narrow fits first = rw (is, header_fine limit header text narrow fits, first) refl

pub first_held : (limit : ℕ) (records rows : List Fields) (header : Fields) → records ≡ header ∷ rows → AllText header
    → length header ≤ max_columns → length header ≤ limit → row_refusals limit 0 header rows ≡ []
    → unless_refused (first_file_refusal limit records) (first_contents records) ≡ Ok (contents header rows 1)
first_held limit records rows header is text narrow fits none = rw (is, header_fine limit header text narrow fits, none) refl

-- and so of a further file
pub further_refused : (limit before : ℕ) (table : Contents) (records rows : List Fields) (names : Fields) (refusal : TableRefusal) → fields_in table ≡ before
    → table.header ≡ names → records ≡ names ∷ rows → AllText names → before + length names ≤ limit
    → slice_get (row_refusals limit before names rows) 0 ≡ Some refusal
    → unless_refused (further_file_refusal limit (fields_in table) table.header records) (further_contents table records) ≡ Err refusal
further_refused limit before table records rows names refusal count head is text fits first =
    rw (count, head, is, further_fine limit before names text fits, first) refl

pub further_header_refused : (limit before : ℕ) (table : Contents) (records : List Fields) (names : Fields) (refusal : TableRefusal) → fields_in table ≡ before
    → table.header ≡ names → further_file_refusal limit before names records ≡ Some refusal
    → unless_refused (further_file_refusal limit (fields_in table) table.header records) (further_contents table records) ≡ Err refusal
further_header_refused limit before table records names refusal count head first = rw (count, head, first) refl

pub further_held : (limit before : ℕ) (table : Contents) (records rows : List Fields) (names : Fields) → fields_in table ≡ before
    → table.header ≡ names → records ≡ names ∷ rows → AllText names → before + length names ≤ limit → row_refusals limit before names rows ≡ []
    → unless_refused (further_file_refusal limit (fields_in table) table.header records) (further_contents table records) ≡ Ok (further_contents table records)
further_held limit before table records rows names count head is text fits none =
    rw (count, head, is, further_fine limit before names text fits, none) refl
