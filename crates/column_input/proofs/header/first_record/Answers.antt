use Rattle.std.proofs.Common.{Ok, ap}
use Rattle.column_input.proofs.HeaderLemmas.{first_not_utf8}
use Rattle.column_input.proofs.header.first_record.Goals as goal

pub returns-in-NotUtf8-clause-refused : goal.returns-in-NotUtf8-clause-refused
returns-in-NotUtf8-clause-refused c known limit before names =
    first_not_utf8 limit before names _ (c.in_ok-next.ensures.not_utf8 (ap Ok c.in-NotUtf8.is))
