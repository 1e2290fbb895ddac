use Rattle.std.proofs.Common.{◌∙◌, sym}
use Rattle.csv.specs.Records.{fields_of}
use Rattle.column_input.proofs.HeaderLemmas.{further_differs, further_too_many, no_difference}
use Rattle.column_input.proofs.header.pass_header.Goals as goal

pub returns-in-Some-clause-refused : goal.returns-in-Some-clause-refused
returns-in-Some-clause-refused c known =
    let read = c.in_ok-fields.ensures.first in
    further_differs _ _ _ _ _ _ _ read.0 read.1 (sym c.first_difference.ensures ∙ c.in-Some.is)

pub returns-then-is_over-clause-refused : goal.returns-then-is_over-clause-refused
returns-then-is_over-clause-refused c known =
    let read = c.in_ok-fields.ensures.first in
    further_too_many _ _ _ _ _ _ read.0 read.1 (sym c.first_difference.ensures ∙ c.in_default.is)
    (rw c.len.ensures at (sym c.is_over.ensures ∙ c.if-is_over.true))

pub returns-clause-same : goal.returns-clause-same
returns-clause-same c = rw (no_difference 1 (fields_of c.args.header.now) (fields_of c.in_ok-fields.fields) (sym c.first_difference.ensures ∙ c.in_default.is)) c.in_ok-fields.ensures.first.0

pub returns-clause-text : goal.returns-clause-text
returns-clause-text c = rw (no_difference 1 (fields_of c.args.header.now) (fields_of c.in_ok-fields.fields) (sym c.first_difference.ensures ∙ c.in_default.is)) c.in_ok-fields.ensures.first.1
