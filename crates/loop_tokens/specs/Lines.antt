-- The lines of a loop file, and where its bytes stop being UTF-8.
-- Source: this project's language; UTF-8 is that of RFC 3629.
use Rattle.std.specs.Prelude.{◌≡◌, ℕ, ◌+◌, List}
use Rattle.std.specs.Str.{IsValidUpTo}
use Rattle.std.specs.Str.Lines.{lines}

-- The text is cut at each LF. What follows the last LF is a line only where it isn't empty. One CR directly before an LF is
-- dropped. These are the lines that Rust's `str::lines` gives.
abbrev pub lines_of : List ℕ → List (List ℕ)
lines_of text = lines text

-- the byte, counted from 1, is the first behind the longest front that is UTF-8
abbrev pub IsBadByte : List ℕ → ℕ → Type 0
IsBadByte bytes byte = (n : ℕ) × (byte ≡ n + 1) × IsValidUpTo bytes n
