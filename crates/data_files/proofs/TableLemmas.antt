-- From files that are held and short to the table of their bytes.
use Rattle.std.proofs.Common.{◌≡◌, ◌≤◌, ◌+◌, ℕ, suc, List, [], ◌∷◌, Option, Some, Result, Ok, Err, length, take, refl, sym, ap, subst, ◌∙◌, arith}
use Rattle.std.proofs.lemmas.Bool.{le-leb}
use Rattle.std.specs.Prelude.{IsOk}
use Rattle.std.specs.FinMap.{get}
use Rattle.edge_io.specs.Reading.{Held}
use Rattle.column_input.specs.Limits.{max_fields}
use Rattle.column_input.specs.Table.{Contents, contents, all_appended_within, appended, table_of}
use Rattle.column_input.specs.declared.refusal.TableRefusal.{TableRefusal}
use Rattle.data_files.specs.declared.stop.DataFile.{DataFile}
use Rattle.data_files.specs.declared.stop.DataStop.{DataStop}
use Rattle.data_files.specs.Tables.{and_then, data_file_limit, data_table, file_at, file_taken, files_taken, of_table, told}
use Rattle.data_files.specs.Laws.{HoldShort, IsRefusedAt}

-- a file that is held and short
short_file : (which : DataFile) (table : Contents) (file : Option (List ℕ)) (bytes : List ℕ) → file ≡ Some bytes → length bytes ≤ data_file_limit → file_taken which table file ≡ told which (appended table bytes)
short_file which table file bytes there short = rw (there, le-leb _ _ short) refl

-- a refusal stays
err_stays : (why : TableRefusal) (files : List (List ℕ)) → all_appended_within max_fields (Err why) files ≡ Err why
err_stays why [] = refl
err_stays why (bytes ∷ files) = refl

-- the files from one on, of so many in all
abbrev Rest : ℕ → ℕ → List (List ℕ) → Held → Contents → Result Contents DataStop
Rest count before names held next = files_taken count (before + 1) next names held

pub one_table : (names files : List (List ℕ)) (held : Held) (count before : ℕ) (start table : Contents) → HoldShort held names files → all_appended_within max_fields (Ok start) files ≡ Ok table
    → files_taken count before start names held ≡ Ok table
one_table [] [] held count before start table short e = let same : start ≡ table = cc e in ap Ok same
one_table [] (bytes ∷ files) held count before start table short e = absurd short
one_table (name ∷ names) [] held count before start table short e = absurd short
one_table (name ∷ names) (bytes ∷ files) held count before start table short e =
    ap (λ r. and_then r (Rest count before names held)) (short_file (file_at count before) start (get held name) bytes short.0 short.1)
    ∙ by (appended start bytes) e (λ next more. one_table names files held count (before + 1) next table short.2 more)
  where
    by : (r : Result Contents TableRefusal) → all_appended_within max_fields r files ≡ Ok table
        → ((next : Contents) → all_appended_within max_fields (Ok next) files ≡ Ok table → files_taken count (before + 1) next names held ≡ Ok table)
        → and_then (told (file_at count before) r) (Rest count before names held) ≡ Ok table
    by (Err why) e more = cc (sym (err_stays why files) ∙ e)
    by (Ok next) e more = more next e

-- the file at which the files are refused, after those that the table has
record RefusedAt (files : List (List ℕ)) (start : Contents) (why : TableRefusal) (given : Result Contents DataStop) (count before : ℕ) : Type 0 where
  at : ℕ
  fine : IsOk (all_appended_within max_fields (Ok start) (take at files))
  refused : all_appended_within max_fields (Ok start) (take (suc at) files) ≡ Err why
  told_so : given ≡ Err (of_table (file_at count (before + at)) why)

refused_at : (names files : List (List ℕ)) (held : Held) (count before : ℕ) (start : Contents) (why : TableRefusal) → HoldShort held names files → all_appended_within max_fields (Ok start) files ≡ Err why
    → RefusedAt files start why (files_taken count before start names held) count before
refused_at [] [] held count before start why short e = cc e
refused_at [] (bytes ∷ files) held count before start why short e = absurd short
refused_at (name ∷ names) [] held count before start why short e = absurd short
refused_at (name ∷ names) (bytes ∷ files) held count before start why short e =
    let is = ap (λ r. and_then r (Rest count before names held)) (short_file (file_at count before) start (get held name) bytes short.0 short.1) in
    subst (λ given. RefusedAt (bytes ∷ files) start why given count before) (sym is)
    (by (appended start bytes) refl e (λ next more. refused_at names files held count (before + 1) next why short.2 more))
  where
    by : (r : Result Contents TableRefusal) → appended start bytes ≡ r → all_appended_within max_fields r files ≡ Err why
        → ((next : Contents) → all_appended_within max_fields (Ok next) files ≡ Err why → RefusedAt files next why (files_taken count (before + 1) next names held) count (before + 1))
        → RefusedAt (bytes ∷ files) start why (and_then (told (file_at count before) r) (Rest count before names held)) count before
    by (Err other) is e more =
        let same : other ≡ why = cc (sym (err_stays other files) ∙ e) in
        let here : before + 0 ≡ before = omega arith in
        record { at = 0; fine = refl; refused = is ∙ ap Err same; told_so = rw (here, same) refl }
    by (Ok next) is e more =
        let rest = more next e in
        let here : before + suc rest.at ≡ before + 1 + rest.at = omega arith in
        record {
          at = suc rest.at;
          fine = subst (λ r. IsOk (all_appended_within max_fields r (take rest.at files))) (sym is) rest.fine;
          refused = ap (λ r. all_appended_within max_fields r (take (suc rest.at) files)) is ∙ rest.refused;
          told_so = rest.told_so ∙ ap (λ place. Err (of_table (file_at count place) why)) (sym here);
        }

pub told_of_its_file : (names files : List (List ℕ)) (held : Held) (why : TableRefusal) → HoldShort held names files → table_of files ≡ Err why
    → (before : ℕ) × IsRefusedAt files before why × (data_table names held ≡ Err (of_table (file_at (length names) before) why))
told_of_its_file names files held why short e =
    let found = refused_at names files held (length names) 0 (contents [] [] 0) why short e in
    let next : suc found.at ≡ found.at + 1 = omega arith in
    let place : 0 + found.at ≡ found.at = omega arith in
    (found.at, (found.fine, ap (λ n. table_of (take n files)) (sym next) ∙ found.refused), found.told_so ∙ ap (λ n. Err (of_table (file_at (length names) n) why)) place)
