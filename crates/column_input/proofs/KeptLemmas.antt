-- The rows of several files, one after another.
use Rattle.std.proofs.Common.{◌≡◌, ◌∙◌, ◌<◌, ◌≤◌, ◌+◌, ◌*◌, ◌-◌, ◌++◌, ℕ, zero, suc, List, [], ◌∷◌, length, drop, get_or, refl, sym, arith, append_assoc, length-append}
use Rattle.std.proofs.Math.Nat.{mul-le-mul_left}
use Rattle.std.proofs.lemmas.List.{append-nil, drop_more, get_or_default}
use Rattle.std.proofs.lemmas.List.Elements.{All-append, All-cons, All-get_or, All-nil}
use Rattle.std.proofs.lemmas.List.Sums.{sum_by-append}
use Rattle.std.specs.Prelude.{slice_get, sum_by}
use Rattle.column_input.specs.Chunk.{Grid, cell_at, grid, joined}
use Rattle.column_input.specs.Kept.{IsKept}
use Rattle.column_input.specs.Limits.{max_columns, max_fields}
use Rattle.column_input.specs.Records.{Fields}
use Rattle.column_input.specs.Table.{Contents, contents, fields_in, further_contents}

-- the rows of one more file follow
pub joined-more : (chunks : List Grid) (chunk : Grid) → joined (chunks ++ chunk ∷ []) ≡ joined chunks ++ chunk.rows
joined-more [] chunk = append-nil chunk.rows
joined-more (first ∷ chunks) chunk = rw (joined-more chunks chunk) (sym (append_assoc first.rows (joined chunks) chunk.rows))

-- no file yet
pub kept_none : (header : Fields) → length header ≤ max_columns → IsKept header [] 0
kept_none header narrow = record {
  some = λ none. absurd (omega arith);
  columns = narrow;
  wide = All-nil (λ (chunk : Grid). chunk.width ≡ length header);
  count = refl;
  even = grind arith;
  limit = grind arith;
  bound = omega arith;
}

-- one more file, after `before` fields
pub kept_more : (header : Fields) (chunks : List Grid) (chunk : Grid) (rows before limit : ℕ) → IsKept header chunks rows → 0 < length header
    → chunk.width ≡ length header → sum_by length chunk.rows ≡ length chunk.rows * length header → before ≡ (length chunks + rows) * length header
    → before + (length chunk.rows + 1) * length header ≤ limit → limit ≤ max_fields → IsKept header (chunks ++ chunk ∷ []) (rows + length chunk.rows)
kept_more header chunks chunk rows before limit kept some wide even before_is fits most =
    let files : length (chunks ++ chunk ∷ []) ≡ length chunks + 1 = length-append chunks (chunk ∷ []) in
    let total : (length chunks + 1 + (rows + length chunk.rows)) * length header ≡ before + (length chunk.rows + 1) * length header = rw before_is (grind arith) in
    let at_least = mul-le-mul_left (length chunks + 1 + (rows + length chunk.rows)) some in
    record {
      some = λ _. some;
      columns = kept.columns;
      wide = All-append (λ (chunk : Grid). chunk.width ≡ length header) chunks (chunk ∷ []) kept.wide (All-cons (λ (chunk : Grid). chunk.width ≡ length header) chunk [] wide (All-nil (λ (chunk : Grid). chunk.width ≡ length header)));
      count = rw (joined-more chunks chunk, length-append (joined chunks) chunk.rows, ← kept.count) refl;
      even = rw (joined-more chunks chunk, sum_by-append {X = Fields} length (joined chunks) chunk.rows, kept.even, even) (grind arith);
      limit = rw (files, total) (omega arith);
      bound = omega arith;
    }

-- the first file
pub kept_first : (header : Fields) (chunk : Grid) (limit : ℕ) → length header ≤ max_columns → 0 < length header → chunk.width ≡ length header
    → sum_by length chunk.rows ≡ length chunk.rows * length header → 0 + (length chunk.rows + 1) * length header ≤ limit → limit ≤ max_fields
    → IsKept header (chunk ∷ []) (length chunk.rows)
kept_first header chunk limit narrow some wide even fits most =
    let none : 0 + length chunk.rows ≡ length chunk.rows = omega arith in
    rw none at (kept_more header [] chunk 0 0 limit (kept_none header narrow) some wide even (grind arith) fits most)

-- how many fields the files have together
pub fields_counted : (header : Fields) (chunks : List Grid) (rows : ℕ) (table : Contents) → IsKept header chunks rows
    → contents header (joined chunks) (length chunks) ≡ table → fields_in table ≡ (length chunks + rows) * length header
fields_counted header chunks rows table kept is = rw (← is, kept.even) (grind arith)

-- a row that is one of the files' from this one on, so that this one is there
pub file_there : (chunks : List Grid) (file row : ℕ) → row < length (joined (drop file chunks)) → file < length chunks
file_there [] zero row below = absurd (omega arith)
file_there [] (suc file) row below = absurd (omega arith)
file_there (chunk ∷ chunks) zero row below = omega arith
file_there (chunk ∷ chunks) (suc file) row below =
    let further = file_there chunks file row below in
    omega arith

-- the rows of two lists
pub slice_get-front : (rows more : List Fields) (row : ℕ) → row < length rows → slice_get (rows ++ more) row ≡ slice_get rows row
slice_get-front [] more row below = absurd (omega arith)
slice_get-front (first ∷ rows) more zero below = refl
slice_get-front (first ∷ rows) more (suc row) below = slice_get-front rows more row (omega arith)

pub slice_get-back : (rows more : List Fields) (row : ℕ) → length rows ≤ row → slice_get (rows ++ more) row ≡ slice_get more (row - length rows)
slice_get-back [] more row past =
    let same : row - 0 ≡ row = omega arith in
    rw same refl
slice_get-back (first ∷ rows) more zero past = absurd (omega arith)
slice_get-back (first ∷ rows) more (suc row) past =
    let same : suc row - suc (length rows) ≡ row - length rows = omega arith in
    rw same (slice_get-back rows more row (omega arith))

-- a row of the files from this one on: the wanted one
pub record Wanted (chunks : List Grid) (wanted file row : ℕ) : Type 0 where
  pub below : row < length (joined (drop file chunks))
  pub same : slice_get (joined (drop file chunks)) row ≡ slice_get (joined chunks) wanted

pub wanted_first : (chunks : List Grid) (wanted : ℕ) → wanted < length (joined chunks) → Wanted chunks wanted 0 wanted
wanted_first chunks wanted below = record { below = below; same = refl }

-- it is past this file's rows
pub wanted_further : (chunks : List Grid) (wanted file row : ℕ) (chunk : Grid) → Wanted chunks wanted file row → chunk ≡ get_or chunks file chunk
    → length chunk.rows ≤ row → Wanted chunks wanted (file + 1) (row - length chunk.rows)
wanted_further chunks wanted file row chunk is here past =
    let there = file_there chunks file row is.below in
    let cut : drop file chunks ≡ chunk ∷ drop (file + 1) chunks = rw (← here) at (drop_more chunks file chunk there) in
    let size = length-append chunk.rows (joined (drop (file + 1) chunks)) in
    let below : row < length (chunk.rows ++ joined (drop (file + 1) chunks)) = rw cut at is.below in
    record {
      below = omega arith;
      same = sym (slice_get-back chunk.rows (joined (drop (file + 1) chunks)) row past) ∙ rw cut at is.same;
    }

-- it is one of this file's
pub wanted_here : (chunks : List Grid) (wanted file row column : ℕ) (chunk : Grid) → Wanted chunks wanted file row → chunk ≡ get_or chunks file chunk
    → row < length chunk.rows → cell_at (joined chunks) wanted column ≡ cell_at chunk.rows row column
wanted_here chunks wanted file row column chunk is here within =
    let there = file_there chunks file row is.below in
    let cut : drop file chunks ≡ chunk ∷ drop (file + 1) chunks = rw (← here) at (drop_more chunks file chunk there) in
    let found : slice_get chunk.rows row ≡ slice_get (joined chunks) wanted =
    sym (slice_get-front chunk.rows (joined (drop (file + 1) chunks)) row within) ∙ rw cut at is.same in
    rw found refl

-- each file has the header's width
pub wide_there : (header : Fields) (chunks : List Grid) (rows file : ℕ) (chunk : Grid) → IsKept header chunks rows → file < length chunks → chunk ≡ get_or chunks file chunk
    → chunk.width ≡ length header
wide_there header chunks rows file chunk kept there here =
    rw (← here) at (All-get_or (λ (chunk : Grid). chunk.width ≡ length header) chunks file chunk there kept.wide)

-- the table with one more file's rows
pub further_is : (header : Fields) (chunks items : List Grid) (chunk : Grid) (width : ℕ) (table : Contents) (records rows : List Fields)
    → contents header (joined chunks) (length chunks) ≡ table → records ≡ header ∷ rows → chunk ≡ grid width rows → items ≡ chunks ++ chunk ∷ []
    → further_contents table records ≡ contents header (joined items) (length items)
further_is header chunks items chunk width table records rows view is held more =
    rw (← view, is, more, joined-more chunks chunk, length-append chunks (chunk ∷ []), held) refl

-- the table of one file's rows
pub first_is : (header : Fields) (items : List Grid) (chunk : Grid) (width : ℕ) (rows : List Fields) → chunk ≡ grid width rows → items ≡ chunk ∷ []
    → contents header (joined items) (length items) ≡ contents header rows 1
first_is header items chunk width rows held more = rw (more, held, append-nil rows) refl

-- what stands at one place is one thing
pub same_there : (chunks : List Grid) (file : ℕ) (one other : Grid) → file < length chunks → one ≡ get_or chunks file one → other ≡ get_or chunks file other → one ≡ other
same_there chunks file one other there is is2 = is ∙ get_or_default chunks file one other there ∙ sym is2
