use Rattle.std.proofs.Common.{◌≡◌, ◌++◌, take, map}
use Rattle.loop_layout.specs.Layout.{marks_text}
use Rattle.loop_layout.specs.Canonical.{written_expr, parts_marks}
use Rattle.loop_writer.proofs.exprs.+exprs.Given as goal

-- the parts so far were written
abbrev pub invariant-write_parts-loop-i : goal.invariant-write_parts-loop-i
invariant-write_parts-loop-i l = l.out.items ≡ l.initial.out.items ++ marks_text (parts_marks (map written_expr (take l.i l.parts)))
