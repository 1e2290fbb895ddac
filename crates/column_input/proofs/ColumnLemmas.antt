-- The first column of a name, and its texts.
use Rattle.std.proofs.Common.{Contains, ◌≡◌, ◌∙◌, ◌<◌, ◌≤◌, ℕ, List, [], true, false, Option, Some, None, length, get_or, refl, sym, arith, le_refl}
use Rattle.std.proofs.lemmas.Bool.{le-ltb, lt-ltb}
use Rattle.std.proofs.lemmas.List.{get_or_default}
use Rattle.std.proofs.lemmas.List.Sums.{position_or_len_is}
use Rattle.std.proofs.lemmas.Option.{slice_get-get_or}
use Rattle.std.proofs.lemmas.Slice.Eq.{bytes_eq-Decides}
use Rattle.std.specs.Borrow.{Bor}
use Rattle.std.specs.Option.{option_eq}
use Rattle.std.specs.Prelude.{option_map}
use Rattle.std.specs.Str.{bytes_eq}
use Rattle.csv.specs.Records.{field_at}
use Rattle.column_input.proofs.ChunkLemmas.{field_at-slice_get}
use Rattle.column_input.specs.Records.{Fields}
use Rattle.column_input.specs.Table.{Contents, column_of, texts_at}

-- whether the field that was found is the name
pub name_test : (found : Option (Bor (List ℕ))) (name : Bor (List ℕ)) (header : Fields) (place : ℕ) → option_map (λ s. s.now) found ≡ field_at header place
    → place < length header → option_eq (λ a b. bytes_eq a.now b.now) found (Some name) ≡ bytes_eq (get_or header place []) name.now
name_test found name header place there within = by found (there ∙ field_at-slice_get header place ∙ slice_get-get_or header place [] within)
  where
    by : (found : Option (Bor (List ℕ))) → option_map (λ s. s.now) found ≡ Some (get_or header place [])
        → option_eq (λ a b. bytes_eq a.now b.now) found (Some name) ≡ bytes_eq (get_or header place []) name.now
    by None e = cc e
    by (Some s) e = let same : s.now ≡ get_or header place [] = cc e in rw same refl

-- the first field that is the name
pub column_found : (table : Contents) (name : List ℕ) (header : Fields) (place : ℕ) → table.header ≡ header → place < length header
    → ((k : ℕ) → k < place → bytes_eq (get_or header k []) name ≡ false) → bytes_eq (get_or header place []) name ≡ true
    → Some (texts_at table place) ≡ column_of table name
column_found table name header place is within before here =
    rw (is, position_or_len_is (λ (field : List ℕ). bytes_eq field name) header place [] (omega arith) before (λ _. here), lt-ltb _ _ within) refl

-- no field is the name
pub column_missing : (table : Contents) (name : List ℕ) (header : Fields) (place : ℕ) → table.header ≡ header → length header ≤ place
    → ((k : ℕ) → k < place → bytes_eq (get_or header k []) name ≡ false) → None ≡ column_of table name
column_missing table name header place is past before =
    rw (
      is,
      position_or_len_is (λ (field : List ℕ). bytes_eq field name) header (length header) [] (omega arith)
          (λ k below. before k (omega arith)) (λ below. absurd (omega arith)),
      le-ltb _ _ (le_refl (length header)),
    ) refl

-- a field that is the name is one of the header's
pub name_contained : (table : Contents) (name : List ℕ) (header : Fields) (place : ℕ) → table.header ≡ header → place < length header
    → bytes_eq (get_or header place []) name ≡ true → Contains table.header name
name_contained table name header place is within here =
    rw is (place, within, get_or_default header place name [] within ∙ (bytes_eq-Decides (get_or header place []) name).0 here)

-- where no field is the name, the header has no such field
pub name_absent : (table : Contents) (name : List ℕ) (header : Fields) (place : ℕ) → table.header ≡ header → length header ≤ place
    → ((k : ℕ) → k < place → bytes_eq (get_or header k []) name ≡ false) → ¬ (Contains table.header name)
name_absent table name header place is past before contained =
    let (k, within, same) = rw is at contained in
    let equal : bytes_eq (get_or header k []) name ≡ true = (bytes_eq-Decides (get_or header k []) name).1 (get_or_default header k [] name within ∙ same) in
    cc (sym equal ∙ before k (omega arith))
