use Rattle.std.proofs.Common.{◌≡◌, take}
use Rattle.loop_data.proofs.value.ValueKind.+copy.Given as goal

-- the copies so far are the parts so far
abbrev pub invariant-loop-part : goal.invariant-loop-part
invariant-loop-part l = l.copies ≡ take l.part-index l.part-items
