use Rattle.std.proofs.Common.{◌≡◌, ◌++◌, take}
use Rattle.loop_layout.specs.Layout.{marks_text}
use Rattle.loop_layout.specs.Canonical.{inner_marks}
use Rattle.loop_writer.proofs.heads.write_inners.Given as goal

-- the heads so far were written
abbrev pub invariant-loop-head : goal.invariant-loop-head
invariant-loop-head l = l.out.items ≡ l.initial.out.items ++ marks_text (inner_marks (take l.head-index l.heads))
