use Rattle.std.proofs.Common.{◌≡◌, ◌++◌, take}
use Rattle.loop_tokens.specs.Literals.{escaped}
use Rattle.loop_writer.proofs.marks.write_escaped.Given as goal

-- the bytes so far were written
abbrev pub invariant-loop-b : goal.invariant-loop-b
invariant-loop-b l = l.out.items ≡ l.initial.out.items ++ escaped (take l.b-index l.text)
