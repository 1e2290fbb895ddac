use Rattle.std.proofs.Common.{◌≡◌, ◌++◌, drop}
use Rattle.scan_lines.specs.Fields.{field_text, next_fields, fields_in}
use Rattle.scan_lines.proofs.lines.line_of.Given as goal

-- with the fields that are left it is the whole text
abbrev pub invariant-loop-field : goal.invariant-loop-field
invariant-loop-field l =
    l.line.items ++ next_fields (fields_in (drop l.field-index l.more)) ≡ field_text l.first ++ next_fields (fields_in l.more)
