use Rattle.std.proofs.Common.{◌≡◌, ◌++◌, drop}
use Rattle.scan_lines.specs.Fields.{quoted_bytes}
use Rattle.scan_lines.proofs.fields.push_all_quoted.Given as goal

-- with the bytes that are left it is the whole text
abbrev pub invariant-loop-byte : goal.invariant-loop-byte
invariant-loop-byte l = l.line.items ++ quoted_bytes (drop l.byte-index l.field) ≡ l.initial.line.items ++ quoted_bytes l.field
