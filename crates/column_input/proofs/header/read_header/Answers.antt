use Rattle.std.proofs.Common.{[]}
use Rattle.column_input.proofs.HeaderLemmas.{too_many, too_wide}
use Rattle.column_input.proofs.TableLemmas.{handed_on}
use Rattle.column_input.proofs.header.read_header.Goals as goal

pub returns-then-columns-gt-MAX_COLUMNS-clause-refused : goal.returns-then-columns-gt-MAX_COLUMNS-clause-refused
returns-then-columns-gt-MAX_COLUMNS-clause-refused c known =
    let read = c.in_ok-header.ensures.first in
    rw c.len-columns.ensures (too_wide _ _ _ _ read.0 read.1 (rw c.len-columns.ensures at c.if-columns-gt-MAX_COLUMNS.true))

pub returns-then-columns-limit-clause-refused : goal.returns-then-columns-limit-clause-refused
returns-then-columns-limit-clause-refused c known =
    let read = c.in_ok-header.ensures.first in
    too_many _ _ _ _ read.0 read.1 (rw c.len-columns.ensures at c.if-columns-gt-MAX_COLUMNS.false) (rw c.len-columns.ensures at c.if-columns-limit.true)

pub returns-in_err-header-clause-refused : goal.returns-in_err-header-clause-refused
returns-in_err-header-clause-refused c =
    rw (handed_on _ _ c.from_residual.ensures.1) (λ known. (c.in_err-header.ensures.refused known c.args.limit 0 []).0)
