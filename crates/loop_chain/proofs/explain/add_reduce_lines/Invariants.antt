use Rattle.std.proofs.Common.{◌≡◌, ◌++◌, map, take}
use Rattle.loop_chain.specs.Explain.{lines_in, reduce_line}
use Rattle.loop_chain.proofs.explain.add_reduce_lines.Given as goal

-- a line for each reducer so far
abbrev pub invariant-loop-named : goal.invariant-loop-named
invariant-loop-named l = lines_in l.lines.items ≡ lines_in l.initial.lines.items ++ map reduce_line (take l.named-index l.row)
