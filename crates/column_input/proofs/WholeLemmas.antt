-- What holds where no file is refused.
use Rattle.std.proofs.Common.{◌≡◌, ◌∙◌, ◌<◌, ◌≤◌, ◌+◌, ◌*◌, ◌++◌, ℕ, zero, suc, List, [], ◌∷◌, Bool, true, false, Option, Some, None, Result, Ok, Err, All, length, refl, sym, arith, append_assoc, length-append}
use Rattle.std.proofs.Math.Seq.{take-length}
use Rattle.std.proofs.lemmas.Bool.{eqb-true, ltb-false, ne_eqb}
use Rattle.std.proofs.lemmas.List.{append-nil}
use Rattle.std.proofs.lemmas.List.Elements.{All-append, All-cons, All-nil}
use Rattle.std.proofs.lemmas.List.Sums.{sum_by-append, sum_by-cons}
use Rattle.std.specs.List.{cons_option, enumerate_from, filter_map, list_all}
use Rattle.std.specs.Prelude.{◌==◌, if◌then◌else◌, nat_lt, not, sum_by}
use Rattle.std.specs.Str.{is_utf8}
use Rattle.csv.specs.Machine.{Read, next_record}
use Rattle.csv.specs.Reading.{AreRecords, Reached, default_config, records_from, records_next}
use Rattle.csv.specs.Records.{AllText}
use Rattle.csv.specs.declared.parser.State.{State}
use Rattle.column_input.proofs.HeaderLemmas.{no_difference}
use Rattle.column_input.proofs.RecordsLemmas.{next_leaves, next_shorter}
use Rattle.column_input.proofs.TableLemmas.{passes_text}
use Rattle.column_input.specs.Limits.{max_columns, max_fields}
use Rattle.column_input.specs.Records.{Fields, records_of}
use Rattle.column_input.specs.RecordsInside.{IsBetween}
use Rattle.column_input.specs.Refusals.{differs_or, fields_up_to, first_difference, first_file_refusal, further_file_refusal, further_header_refusal, header_first, header_refusal, row_refusal, row_refusals}
use Rattle.column_input.specs.Table.{Contents, all_appended_within, appended_within, contents, fields_in, first_contents, first_table_within, further_contents, further_table_within, rows_after_header, table_of, unless_refused}
use Rattle.column_input.specs.Whole.{HoldsFiles, IsWhole, rows_of_files}
use Rattle.column_input.specs.declared.refusal.TableRefusal.{TableRefusal}
use Rattle.column_input.specs.declared.refusal.TableRefusal.TheVariants as refused

-- enough turns read all records
pub reads_all : (turns : ℕ) (s : State) (text : List ℕ) → IsBetween s → length text < turns → AreRecords default_config s text (records_from default_config turns s text)
unfolding records_from Reached
reads_all zero s text between enough = absurd (omega arith)
reads_all (suc turns) s text between enough = by (next_record default_config s [] [] text) refl (λ read. reads_all turns read.1 read.2)
  where
    by : (next : Option Read) → next_record default_config s [] [] text ≡ next
        → ((read : Read) → IsBetween read.1 → length read.2 < turns → AreRecords default_config read.1 read.2 (records_from default_config turns read.1 read.2))
        → AreRecords default_config s text (records_next (records_from default_config turns) next)
    by None e more = (s, text, (refl, refl), e)
    by (Some read) e more =
        let leaves = next_leaves s [] [] text read e in
        let shorter = next_shorter s text read between e in
        let (s2, rest, reached, ended) = more read leaves.between (omega arith) in
        (s2, rest, (read, e, refl, reached), ended)

-- the first record has a field
first_some : (turns : ℕ) (s : State) (text : List ℕ) (header : Fields) (rows : List Fields) → records_from default_config turns s text ≡ header ∷ rows → 0 < length header
unfolding records_from
first_some zero s text header rows e = cc e
first_some (suc turns) s text header rows e = by (next_record default_config s [] [] text) refl e
  where
    by : (next : Option Read) → next_record default_config s [] [] text ≡ next → records_next (records_from default_config turns) next ≡ header ∷ rows → 0 < length header
    by None e is = cc is
    by (Some read) e is =
        let leaves = next_leaves s [] [] text read e in
        let same : read.0 ≡ header = cc is in
        rw (← same) leaves.some

-- a row with no refusal
record Clear (limit before : ℕ) (header : Fields) (rows : List Fields) (number : ℕ) (fields : Fields) : Type 0 where
  text : AllText fields
  full : length fields ≡ length header
  kept : before + fields_up_to (header ∷ rows) number ≤ limit

clear_row : (limit before : ℕ) (header : Fields) (rows : List Fields) (number : ℕ) (fields : Fields)
    → row_refusal limit before header rows (number, fields) ≡ None → Clear limit before header rows number fields
clear_row limit before header rows number fields e =
    by (list_all is_utf8 fields) (length fields == length header) (nat_lt limit (before + fields_up_to (header ∷ rows) number)) refl refl refl e
  where
    by : (text full over : Bool) → list_all is_utf8 fields ≡ text → (length fields == length header) ≡ full
        → nat_lt limit (before + fields_up_to (header ∷ rows) number) ≡ over
        → ◌≡◌ {A = Option TableRefusal} (if not text then Some (refused.NotUtf8 number)
        else if not full then Some (refused.Ragged number (length fields) (length header))
        else if over then Some (refused.TooManyFields number limit)
        else None) None
        → Clear limit before header rows number fields
    by false full over is_text is_full is_over e = cc e
    by true false over is_text is_full is_over e = cc e
    by true true true is_text is_full is_over e = cc e
    by true true false is_text is_full is_over e = record {
      text = passes_text fields is_text;
      full = eqb-true _ _ is_full;
      kept = ltb-false _ _ is_over;
    }

-- where nothing is refused, nothing is refused at the front and nothing after it
front_clear : {X Y : Type 0} (h : X → Option Y) (x : X) (xs : List X) → filter_map h (x ∷ xs) ≡ [] → (h x ≡ None) × (filter_map h xs ≡ [])
front_clear {Y} h x xs e = by (h x) e
  where
    by : (y : Option Y) → cons_option y (filter_map h xs) ≡ [] → (y ≡ None) × (filter_map h xs ≡ [])
    by None e = (refl, e)
    by (Some y) e = cc e

all_full : (limit before : ℕ) (header : Fields) (rows : List Fields) (number : ℕ) (left : List Fields) → filter_map (row_refusal limit before header rows) (enumerate_from number left) ≡ []
    → All (λ row. length row ≡ length header) left
all_full limit before header rows number [] e = All-nil (λ row. length row ≡ length header)
all_full limit before header rows number (row ∷ left) e =
    let (here, after) = front_clear (row_refusal limit before header rows) (number, row) (enumerate_from (number + 1) left) e in
    All-cons (λ row. length row ≡ length header) row left (clear_row limit before header rows number row here).full (all_full limit before header rows (number + 1) left after)

all_text : (limit before : ℕ) (header : Fields) (rows : List Fields) (number : ℕ) (left : List Fields) → filter_map (row_refusal limit before header rows) (enumerate_from number left) ≡ []
    → All AllText left
all_text limit before header rows number [] e = All-nil AllText
all_text limit before header rows number (row ∷ left) e =
    let (here, after) = front_clear (row_refusal limit before header rows) (number, row) (enumerate_from (number + 1) left) e in
    All-cons AllText row left (clear_row limit before header rows number row here).text (all_text limit before header rows (number + 1) left after)

-- the last row keeps the limit
last_kept : (limit before : ℕ) (header : Fields) (rows : List Fields) (number : ℕ) (first : Fields) (left : List Fields)
    → filter_map (row_refusal limit before header rows) (enumerate_from number (first ∷ left)) ≡ [] → before + fields_up_to (header ∷ rows) (number + length left) ≤ limit
last_kept limit before header rows number first [] e =
    let (here, after) = front_clear (row_refusal limit before header rows) (number, first) [] e in
    let place : number + 0 ≡ number = omega arith in
    rw place (clear_row limit before header rows number first here).kept
last_kept limit before header rows number first (row ∷ left) e =
    let (here, after) = front_clear (row_refusal limit before header rows) (number, first) (enumerate_from (number + 1) (row ∷ left)) e in
    let place : number + suc (length left) ≡ number + 1 + length left = omega arith in
    rw place (last_kept limit before header rows (number + 1) row left after)

-- all records of a file keep the limit, where its header does
total_kept : (limit before : ℕ) (header : Fields) (rows : List Fields) → row_refusals limit before header rows ≡ [] → before + length header ≤ limit
    → before + sum_by length (header ∷ rows) ≤ limit
total_kept limit before header [] none fits = rw (sum_by-cons {X = List (List ℕ)} length header []) (omega arith)
total_kept limit before header (row ∷ left) none fits =
    let count : 2 + length left ≡ length (header ∷ row ∷ left) = omega arith in
    rw (count, take-length (header ∷ row ∷ left)) at (last_kept limit before header (row ∷ left) 2 row left none)

-- what is known of a file's header with no refusal
header_clear : (limit : ℕ) (header : Fields) → header_refusal limit header ≡ None → AllText header × (length header ≤ max_columns) × (length header ≤ limit)
header_clear limit header e = by (list_all is_utf8 header) (nat_lt max_columns (length header)) (nat_lt limit (length header)) refl refl refl e
  where
    by : (text wide over : Bool) → list_all is_utf8 header ≡ text → nat_lt max_columns (length header) ≡ wide → nat_lt limit (length header) ≡ over
        → ◌≡◌ {A = Option TableRefusal} (if not text then Some (refused.NotUtf8 1)
        else if wide then Some (refused.TooManyColumns (length header))
        else if over then Some (refused.TooManyFields 1 limit)
        else None) None
        → AllText header × (length header ≤ max_columns) × (length header ≤ limit)
    by false wide over is_text is_wide is_over e = cc e
    by true true over is_text is_wide is_over e = cc e
    by true false true is_text is_wide is_over e = cc e
    by true false false is_text is_wide is_over e = (passes_text header is_text, ltb-false _ _ is_wide, ltb-false _ _ is_over)

further_clear : (limit before : ℕ) (names header : Fields) → further_header_refusal limit before names header ≡ None
    → AllText header × (names ≡ header) × (before + length header ≤ limit)
further_clear limit before names header e = by (list_all is_utf8 header) (first_difference names header) (nat_lt limit (before + length header)) refl refl refl e
  where
    by : (text : Bool) (differs : Option ℕ) (over : Bool) → list_all is_utf8 header ≡ text → first_difference names header ≡ differs
        → nat_lt limit (before + length header) ≡ over
        → ◌≡◌ {A = Option TableRefusal} (if not text then Some (refused.NotUtf8 1)
        else differs_or differs (if over then Some (refused.TooManyFields 1 limit) else None)) None
        → AllText header × (names ≡ header) × (before + length header ≤ limit)
    by false differs over is_text same is_over e = cc e
    by true (Some field) over is_text same is_over e = cc e
    by true None true is_text same is_over e = cc e
    by true None false is_text same is_over e = (passes_text header is_text, no_difference 1 names header same, ltb-false _ _ is_over)

-- contents that were taken with no refusal
taken : (header : Option TableRefusal) (rows : List TableRefusal) (whole table : Contents) → unless_refused (header_first header rows) whole ≡ Ok table
    → (header ≡ None) × (rows ≡ []) × (whole ≡ table)
taken (Some refusal) rows whole table e = cc e
taken None (refusal ∷ rows) whole table e = cc e
taken None [] whole table e = (refl, refl, let same : whole ≡ table = cc e in same)

-- what is known of a table and the files that it was read from
record Held (files : List (List ℕ)) (table : Contents) : Type 0 where
  whole : IsWhole table
  holds : HoldsFiles table files

first_held : (bytes : List ℕ) (records : List Fields) (table : Contents) → records_of bytes ≡ records
    → unless_refused (first_file_refusal max_fields records) (first_contents records) ≡ Ok table → Held (bytes ∷ []) table
first_held bytes [] table is e = cc e
first_held bytes (header ∷ rows) table is e =
    let (clear, none, same) = taken (header_refusal max_fields header) (row_refusals max_fields 0 header rows) (contents header rows 1) table e in
    let (text, narrow, fits) = header_clear max_fields header clear in
    let total = total_kept max_fields 0 header rows none (omega arith) in
    let sum = sum_by-cons {X = List (List ℕ)} length header rows in
    let read : records_of bytes ≡ header ∷ rows_after_header (records_of bytes) = rw is refl in
    rw (← same) (record {
      whole = record {
        some = first_some _ _ _ header rows is;
        columns = narrow;
        even = all_full max_fields 0 header rows 2 rows none;
        names = text;
        texts = all_text max_fields 0 header rows 2 rows none;
        fields = omega arith;
      };
      holds = record {
        header = All-cons (λ (file : List ℕ). records_of file ≡ header ∷ rows_after_header (records_of file)) bytes [] read (All-nil (λ (file : List ℕ). records_of file ≡ header ∷ rows_after_header (records_of file)));
        rows = rw (is, append-nil rows) refl;
        count = refl;
      };
    })

rows_of_files-more : (files : List (List ℕ)) (bytes : List ℕ) → rows_of_files (files ++ bytes ∷ []) ≡ rows_of_files files ++ rows_after_header (records_of bytes)
rows_of_files-more [] bytes = append-nil (rows_after_header (records_of bytes))
rows_of_files-more (file ∷ files) bytes =
    rw (rows_of_files-more files bytes) (sym (append_assoc (rows_after_header (records_of file)) (rows_of_files files) (rows_after_header (records_of bytes))))

next_held : (files : List (List ℕ)) (bytes : List ℕ) (records : List Fields) (table next : Contents) → Held files table → records_of bytes ≡ records
    → unless_refused (further_file_refusal max_fields (fields_in table) table.header records) (further_contents table records) ≡ Ok next
    → Held (files ++ bytes ∷ []) next
next_held files bytes [] table next held is e = cc e
next_held files bytes (header ∷ rows) table next held is e =
    let (clear, none, same) = taken (further_header_refusal max_fields (fields_in table) table.header header) (row_refusals max_fields (fields_in table) header rows) (further_contents table (header ∷ rows)) next e in
    let (text, equal, fits) = further_clear max_fields (fields_in table) table.header header clear in
    let total = total_kept max_fields (fields_in table) header rows none fits in
    let read : records_of bytes ≡ table.header ∷ rows_after_header (records_of bytes) = rw (is, equal) refl in
    let sum : (table.files + 1) * length table.header + sum_by length (table.rows ++ rows) ≡ fields_in table + sum_by length (header ∷ rows) =
    rw (sum_by-append {X = List (List ℕ)} length table.rows rows, sum_by-cons {X = List (List ℕ)} length header rows, ← equal) (grind arith) in
    rw (← same) (record {
      whole = record {
        some = held.whole.some;
        columns = held.whole.columns;
        even = All-append (λ row. length row ≡ length table.header) table.rows rows held.whole.even (rw (← equal) at (all_full max_fields (fields_in table) header rows 2 rows none));
        names = held.whole.names;
        texts = All-append AllText table.rows rows held.whole.texts (all_text max_fields (fields_in table) header rows 2 rows none);
        fields = rw sum total;
      };
      holds = record {
        header = All-append (λ (file : List ℕ). records_of file ≡ table.header ∷ rows_after_header (records_of file)) files (bytes ∷ []) held.holds.header
            (All-cons (λ (file : List ℕ). records_of file ≡ table.header ∷ rows_after_header (records_of file)) bytes [] read (All-nil (λ (file : List ℕ). records_of file ≡ table.header ∷ rows_after_header (records_of file))));
        rows = rw (rows_of_files-more files bytes, is, held.holds.rows) refl;
        count = rw (length-append files (bytes ∷ []), held.holds.count) refl;
      };
    })

-- a refusal stays
pub err_stays : (limit : ℕ) (refusal : TableRefusal) (files : List (List ℕ)) → all_appended_within limit (Err refusal) files ≡ Err refusal
err_stays limit refusal [] = refl
err_stays limit refusal (bytes ∷ files) = refl

-- a further file of a table that has some
further_where : (limit : ℕ) (table : Contents) (bytes : List ℕ) → 0 < table.files → appended_within limit table bytes ≡ further_table_within limit table bytes
further_where limit table bytes some =
    let further : (table.files == 0) ≡ false = ne_eqb table.files 0 (λ e. absurd (omega arith)) in
    rw further refl

all_held : (files further : List (List ℕ)) (start table : Contents) → 0 < length files → Held files start → all_appended_within max_fields (Ok start) further ≡ Ok table
    → Held (files ++ further) table
all_held files [] start table some held e =
    let same : start ≡ table = cc e in
    rw (← same, append-nil files) held
all_held files (bytes ∷ further) start table some held e =
    let one_more : length (files ++ bytes ∷ []) ≡ length files + 1 = length-append files (bytes ∷ []) in
    let count = held.holds.count in
    let there : 0 < start.files = omega arith in
    rw (append_assoc files (bytes ∷ []) further) at
    (by there (appended_within max_fields start bytes) refl e (λ next here more. all_held (files ++ bytes ∷ []) further next table (omega arith) here more))
  where
    by : 0 < start.files → (result : Result Contents TableRefusal) → appended_within max_fields start bytes ≡ result → all_appended_within max_fields result further ≡ Ok table
        → ((next : Contents) → Held (files ++ bytes ∷ []) next → all_appended_within max_fields (Ok next) further ≡ Ok table → Held ((files ++ bytes ∷ []) ++ further) table)
        → Held ((files ++ bytes ∷ []) ++ further) table
    by there (Err refusal) is e more = cc (sym (err_stays max_fields refusal further) ∙ e)
    by there (Ok next) is e more = more next (next_held files bytes (records_of bytes) start next held refl (sym (further_where max_fields start bytes there) ∙ is)) e

files_held : (first : List ℕ) (further : List (List ℕ)) (table : Contents) → table_of (first ∷ further) ≡ Ok table → Held (first ∷ further) table
files_held first further table e = by (first_table_within max_fields first) refl e
  where
    by : (result : Result Contents TableRefusal) → first_table_within max_fields first ≡ result → all_appended_within max_fields result further ≡ Ok table
        → Held (first ∷ further) table
    by (Err refusal) is e = cc (sym (err_stays max_fields refusal further) ∙ e)
    by (Ok start) is e = all_held (first ∷ []) further start table (omega arith) (first_held first (records_of first) start refl is) e

pub is_whole : (first : List ℕ) (further : List (List ℕ)) (table : Contents) → table_of (first ∷ further) ≡ Ok table → IsWhole table
is_whole first further table e = (files_held first further table e).whole

pub holds_files : (first : List ℕ) (further : List (List ℕ)) (table : Contents) → table_of (first ∷ further) ≡ Ok table → HoldsFiles table (first ∷ further)
holds_files first further table e = (files_held first further table e).holds

-- one more file
pub one_more : (limit : ℕ) (start : Result Contents TableRefusal) (files : List (List ℕ)) (more : List ℕ) (table : Contents) → all_appended_within limit start files ≡ Ok table
    → all_appended_within limit start (files ++ more ∷ []) ≡ appended_within limit table more
one_more limit (Err refusal) [] more table e = cc e
one_more limit (Ok start) [] more table e = let same : start ≡ table = cc e in rw same refl
one_more limit (Err refusal) (bytes ∷ files) more table e = cc e
one_more limit (Ok start) (bytes ∷ files) more table e = one_more limit (appended_within limit start bytes) files more table e

-- more files
pub refusal_stays : (limit : ℕ) (start : Result Contents TableRefusal) (files more : List (List ℕ)) (refusal : TableRefusal) → all_appended_within limit start files ≡ Err refusal
    → all_appended_within limit start (files ++ more) ≡ Err refusal
refusal_stays limit (Err other) [] more refusal e = err_stays limit other more ∙ e
refusal_stays limit (Ok start) [] more refusal e = cc e
refusal_stays limit (Err other) (bytes ∷ files) more refusal e = e
refusal_stays limit (Ok start) (bytes ∷ files) more refusal e = refusal_stays limit (appended_within limit start bytes) files more refusal e
