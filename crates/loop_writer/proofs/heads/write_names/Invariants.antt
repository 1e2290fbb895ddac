use Rattle.std.proofs.Common.{◌≡◌, ◌++◌, take, map, false}
use Rattle.loop_layout.specs.Layout.{marks_text}
use Rattle.loop_layout.specs.Canonical.{name_marks, listed}
use Rattle.loop_writer.proofs.heads.write_names.Given as goal

-- the names so far were written
abbrev pub invariant-loop-i : goal.invariant-loop-i
invariant-loop-i l = l.out.items ≡ l.initial.out.items ++ marks_text (listed (map name_marks (take l.i l.names)) false)
