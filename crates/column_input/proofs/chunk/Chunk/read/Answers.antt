use Rattle.std.proofs.Common.{◌∙◌, Ok, ap, sym}
use Rattle.column_input.proofs.TableLemmas.{read_on, refused_length, refused_limit, refused_text}
use Rattle.column_input.proofs.chunk.Chunk.read.Goals as goal

pub returns-in-NotUtf8-clause-rows : goal.returns-in-NotUtf8-clause-rows
returns-in-NotUtf8-clause-rows c known header wide =
    rw c.rows-number.ensures (refused_text _ _ _ _ _ _ c.loop-row.invariant.1 (c.in_ok-next.ensures.not_utf8 (ap Ok c.in-NotUtf8.is)) header wide)

pub returns-then-len-width-clause-rows : goal.returns-then-len-width-clause-rows
returns-then-len-width-clause-rows c known header wide =
    let read = c.in_ok-next.ensures in
    let found = ap Ok c.in-Record.is in
    let reading = rw (read.first found) at c.loop-row.invariant.1 in
    rw (c.rows-number.ensures, c.len-then-len-width.ensures)
    (refused_length _ _ _ _ _ _ _ reading (read.text found) (λ e. c.if-len-width.true (c.len.ensures ∙ e)) header wide)

pub returns-then-is_over-clause-rows : goal.returns-then-is_over-clause-rows
returns-then-is_over-clause-rows c known header wide =
    let read = c.in_ok-next.ensures in
    let found = ap Ok c.in-Record.is in
    let reading = rw (read.first found) at c.loop-row.invariant.1 in
    rw c.rows-number.ensures
    (refused_limit _ _ _ _ _ _ _ reading (read.text found) (sym c.len.ensures ∙ c.if-len-width.false) (rw c.rows-number.ensures at (sym c.is_over.ensures ∙ c.if-is_over.true)) header wide)

pub loop-row-preserved : goal.loop-row-preserved
loop-row-preserved c =
    let read = c.in_ok-next.ensures in
    let found = ap Ok c.in-Record.is in
    let reading = rw (read.first found) at c.loop-row.invariant.1 in
    let full = sym c.len.ensures ∙ c.if-len-width.false in
    rw c.in_ok-push.ensures
    (c.loop-row.invariant.0, read_on _ _ _ _ _ _ _ reading (read.text found) full (rw c.rows-number.ensures at (sym c.is_over.ensures ∙ c.if-is_over.false)))
