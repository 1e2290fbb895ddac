use Rattle.std.proofs.Common.{◌≡◌, ◌-◌, ◌≤◌, ◌++◌, replicate}
use Rattle.loop_writer.proofs.rows.write_empty_lines.Given as goal

-- the lines so far were written
abbrev pub invariant-loop-line : goal.invariant-loop-line
invariant-loop-line l = record {
  text : l.out.items ≡ l.initial.out.items ++ replicate (l.line - l.from) 10;
  low : l.from ≤ l.line;
  high : l.line - l.from ≤ l.to - l.from;
}

abbrev pub decreases-loop-line : goal.decreases-loop-line
decreases-loop-line l = l.to - l.line
