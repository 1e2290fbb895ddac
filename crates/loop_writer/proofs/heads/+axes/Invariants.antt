use Rattle.std.proofs.Common.{◌≡◌, ◌++◌, take, map}
use Rattle.loop_layout.specs.Layout.{marks_text}
use Rattle.loop_layout.specs.Canonical.{axis_marks, listed}
use Rattle.loop_writer.proofs.heads.+axes.Given as goal

-- the axes so far were written
abbrev pub invariant-write_axes-loop-i : goal.invariant-write_axes-loop-i
invariant-write_axes-loop-i l = l.out.items ≡ l.initial.out.items ++ marks_text (listed (map axis_marks (take l.i l.axes)) l.apart)
