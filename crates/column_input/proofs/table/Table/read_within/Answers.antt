use Rattle.std.proofs.Common.{◌≡◌, ◌∙◌, Ok, Err, ap, sym}
use Rattle.csv.specs.Records.{fields_of}
use Rattle.column_input.proofs.HeaderLemmas.{first_held, first_refused}
use Rattle.column_input.proofs.KeptLemmas.{first_is, kept_first}
use Rattle.column_input.proofs.TableLemmas.{handed_on}
use Rattle.column_input.specs.Chunk.{Grid}
use Rattle.column_input.specs.declared.refusal.TableRefusal.TheVariants as refused
use Rattle.column_input.proofs.table.Table.read_within.Goals as goal

pub returns-in_err-chunk-clause-table : goal.returns-in_err-chunk-clause-table
returns-in_err-chunk-clause-table c known =
    let same = handed_on _ _ c.from_residual-in_err-chunk.ensures.1 in
    let read = c.in_ok-header.ensures in
    let first = c.in_err-chunk.ensures.rows (λ e. known (same ∙ ap Err (let q : c.in_err-chunk.field-0.0 ≡ refused.NoMemory = cc e in q))) (fields_of c.in_ok-header.header) (sym c.len.ensures) in
    same ∙ sym (first_refused _ _ _ _ _ (sym c.in_ok-records.ensures ∙ read.header.0) read.header.1 read.width read.fits first)

pub invariant_of-result : goal.invariant_of-result
invariant_of-result c =
    let read = c.in_ok-header.ensures in
    let held = c.in_ok-chunk.ensures.rows (λ e. cc e) (fields_of c.in_ok-header.header) (sym c.len.ensures) in
    rw (c.in_ok-push.ensures.items, c.new-chunks.ensures.items, c.rows-rows.ensures)
    (kept_first (fields_of c.in_ok-header.header) c.in_ok-chunk.chunk c.args.limit read.width read.some (ap (λ (chunk : Grid). chunk.width) held.0 ∙ c.len.ensures)
    (rw c.len.ensures at c.in_ok-chunk.ensures.even) (rw c.len.ensures at c.in_ok-chunk.ensures.bound) c.requires.limit)

pub returns-clause-table : goal.returns-clause-table
returns-clause-table c known =
    let read = c.in_ok-header.ensures in
    let held = c.in_ok-chunk.ensures.rows (λ e. cc e) (fields_of c.in_ok-header.header) (sym c.len.ensures) in
    ap Ok (first_is (fields_of c.in_ok-header.header) _ _ _ _ held.0 (rw c.new-chunks.ensures.items at c.in_ok-push.ensures.items))
    ∙ sym (first_held _ _ _ _ (sym c.in_ok-records.ensures ∙ read.header.0) read.header.1 read.width read.fits held.1)
