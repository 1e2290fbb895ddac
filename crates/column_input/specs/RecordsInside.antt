-- What is left of a text while its records are read, by the state of `csv`'s reader.
-- Source: the specification of `csv`.
use Rattle.std.specs.Prelude.{◌≡◌, ◌⊎◌, ◌+◌, ℕ, List, [], Option, Some, None, true, false, length}
use Rattle.std.specs.Borrow.{Bor}
use Rattle.csv.specs.Reading.{Ready, default_config, has_failed, is_flexible, reader_config, reader_state, reader_trim}
use Rattle.csv.specs.Reading.{records_from, source_of}
use Rattle.csv.specs.declared.parser.State.{State}
use Rattle.csv.specs.declared.parser.State.TheVariants as st
use Rattle.csv.specs.declared.reader.Reader.{Reader}
use Rattle.csv.specs.declared.reader.Trim.TheVariants as trim
use Rattle.column_input.specs.Records.{Fields}

-- every record of these bytes, read on from this state
abbrev pub records_after : State → List ℕ → List Fields
records_after s bytes = records_from default_config (length bytes + 1) s bytes

-- the same, where the bytes are known
abbrev pub records_left : State → Option (List ℕ) → List Fields
records_left s None = []
records_left s (Some bytes) = records_after s bytes

-- the records that a reader over a slice has yet to give
abbrev pub left_of : Reader (Bor (List ℕ)) → List Fields
left_of reader = records_left (reader_state reader) (source_of (λ s. Some s.now) reader)

-- a state between two records
abbrev pub IsBetween : State → Type 0
IsBetween s = (s ≡ st.StartRecord) ⊎ (s ≡ st.AfterCr)

-- a reader by the defaults that hasn't failed, with no header row, no trimming and records of any length, that stands
-- between two records
pub record IsPlain (reader : Reader (Bor (List ℕ))) : Type 0 where
  pub config : reader_config reader ≡ default_config
  pub untrimmed : reader_trim reader ≡ trim.None
  pub any_length : is_flexible reader ≡ true
  pub ready : Ready reader
  pub works : has_failed reader ≡ false
  pub between : IsBetween (reader_state reader)
