-- The records of a text: the list that the kit's crate `csv` gives for its bytes.
-- Source: RFC 4180, as `csv` reads it by its defaults.
use Rattle.std.specs.Prelude.{ℕ, List, [], ◌∷◌}
use Rattle.csv.specs.Reading.{default_config, records, strip_bom}
use Rattle.csv.specs.Records.{AllText}

-- a record: its fields from left to right, each as the bytes of its text
abbrev pub Fields : Type 0
Fields = List (List ℕ)

-- every record of a text: commas, double quotes, lines that end in CR, LF or both, no line taken for a header, no blank
-- trimmed, and one byte-order mark dropped where the bytes start with it
abbrev pub records_of : List ℕ → List Fields
records_of bytes = records default_config (strip_bom bytes)

-- the first of these records has a field that isn't UTF-8
abbrev pub StartsNotUtf8 : List Fields → Type 0
StartsNotUtf8 [] = ⊥
StartsNotUtf8 (fields ∷ rest) = ¬ (AllText fields)
