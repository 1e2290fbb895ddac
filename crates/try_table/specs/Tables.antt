-- The table of `try`: its rows follow from a seed by a linear congruential generator.
-- Source: the multiplier of Knuth's MMIX generator; what a row takes of each number is this project's.
use Rattle.std.specs.Prelude.{ℕ, zero, suc, ◌+◌, ◌*◌, ◌/◌, ◌%◌, ◌^◌, List, [], ◌∷◌, ◌++◌, codes}
use Rattle.std.specs.Fmt.{decimal}

-- the most rows that a table is asked for
abbrev pub most_rows : ℕ
most_rows = 1000000

-- the number that follows this one, of 64 bits without a sign
abbrev pub number_after : ℕ → ℕ
number_after x = (x * 6364136223846793005 + 1442695040888963407) % (2 ^ 64)

-- what a row takes of its number: all but the last 33 bits
abbrev pub high : ℕ → ℕ
high x = x / (2 ^ 33)

-- the region of a row is `r0` to `r7`, its quantity 0 to 999
abbrev pub region : ℕ → ℕ
region x = high x % 8

abbrev pub quantity : ℕ → ℕ
quantity x = high x / 8 % 1000

-- the line of the row of a number, with its LF
abbrev pub row_line : ℕ → List ℕ
row_line x = codes "r" ++ (decimal (region x) ++ (codes "," ++ (decimal (quantity x) ++ 10 ∷ [])))

-- so many rows, of the numbers that follow this one
abbrev pub rows_after : ℕ → ℕ → List ℕ
rows_after zero x = []
rows_after (suc rows) x = row_line (number_after x) ++ rows_after rows (number_after x)

-- the bytes of the table of so many rows: a header line, and the rows of the numbers that follow the seed
abbrev pub table_bytes : ℕ → ℕ → List ℕ
table_bytes seed rows = codes "region,qty\n" ++ rows_after rows seed
