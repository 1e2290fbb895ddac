-- A list of texts that is kept as their bytes, one text after another, and the places where they end.
-- Source: the records of `csv`, which keep their fields so.
use Rattle.std.specs.Prelude.{◌≡◌, ◌≤◌, ℕ, List, length}
use Rattle.csv.specs.Records.{AllText, Rising, cut_from, last_end}

-- the texts that end at these places
abbrev pub texts_in : List ℕ → List ℕ → List (List ℕ)
texts_in bytes ends = cut_from 0 ends bytes

-- the places rise to the end of the bytes, which 4-byte numbers count, and each text is UTF-8
pub record AreKept (bytes ends : List ℕ) : Type 0 where
  pub rising : Rising 0 ends (length bytes)
  pub full : last_end 0 ends ≡ length bytes
  pub short : length bytes ≤ 4294967295
  pub text : AllText (texts_in bytes ends)
