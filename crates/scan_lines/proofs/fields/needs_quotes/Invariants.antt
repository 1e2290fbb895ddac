use Rattle.std.proofs.Common.{◌≡◌, drop}
use Rattle.scan_lines.specs.Fields.{needs_quotes}
use Rattle.scan_lines.proofs.fields.needs_quotes.Given as goal

-- what is left decides
abbrev pub invariant-loop-byte : goal.invariant-loop-byte
invariant-loop-byte l = needs_quotes (drop l.byte-index l.field) ≡ needs_quotes l.field
