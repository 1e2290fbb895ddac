use Rattle.std.proofs.Common.{◌≡◌, take}
use Rattle.loop_values.proofs.entries.same_front.Given as goal

-- the entries so far are the same
abbrev pub invariant-loop-i : goal.invariant-loop-i
invariant-loop-i l = take l.i l.held ≡ take l.i l.other
