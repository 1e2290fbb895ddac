use Rattle.std.proofs.Common.{◌≡◌, ◌++◌, drop}
use Rattle.loop_chain.specs.Explain.{joined, lines_in}
use Rattle.loop_chain.proofs.explain.joined.Given as goal

-- with the lines that are left it is the whole text
abbrev pub invariant-loop-line : goal.invariant-loop-line
invariant-loop-line l = l.text.items ++ joined (lines_in (drop l.line-index l.lines)) ≡ joined (lines_in l.lines)
