use Rattle.std.proofs.Common.{◌∙◌, sym}
use Rattle.csv.specs.Records.{fields_of}
use Rattle.column_input.proofs.RecordsLemmas.{Took, read_ended, read_refused, read_took}
use Rattle.column_input.proofs.records.Records.next.Goals as goal

-- the read that found a record
took : (c : goal.In-Ok-true) → Took c.self.inside.reader c.read_record.new.self (fields_of c.read_record.new.row)
took c =
    let plain = c.self.invariant c.if-self.false in
    let read = c.in-Ok-true.ensures in
    read_took c.self.inside.reader c.read_record.new.self (fields_of c.read_record.new.row) plain
    (rw c.in-Ok-true.field-0-test at (read.reads plain.untrimmed plain.ready)) (read.ready plain.untrimmed) read.flexible read.goes

pub invariant_of-self : goal.invariant_of-self
invariant_of-self c e = (took c).plain

pub returns-in-Ok-true-clause-first : goal.returns-in-Ok-true-clause-first
returns-in-Ok-true-clause-first c e = rw (← c.self.view_is, c.if-self.false) (took c).first

pub returns-in-Ok-true-clause-some : goal.returns-in-Ok-true-clause-some
returns-in-Ok-true-clause-some c e = (took c).some

pub returns-in-Ok-false-clause-end : goal.returns-in-Ok-false-clause-end
returns-in-Ok-false-clause-end c e =
    let plain = c.self.invariant c.if-self.false in
    let read = rw c.in-Ok-false.field-0-test at (c.in-Ok-false.ensures.reads plain.untrimmed plain.ready) in
    rw (← c.self.view_is, c.if-self.false) (read_ended c.self.inside.reader c.read_record.new.self _ plain read)

pub returns-in-Utf8-clause-not_utf8 : goal.returns-in-Utf8-clause-not_utf8
returns-in-Utf8-clause-not_utf8 c e =
    let plain = c.self.invariant c.if-self.false in
    let why = rw (sym c.kind.ensures ∙ c.in-Utf8.is) at (c.in-Err.ensures.why plain.untrimmed plain.ready) in
    rw (← c.self.view_is, c.if-self.false) (read_refused c.self.inside.reader c.read_record.new.self why.1 plain why.2 why.3)
