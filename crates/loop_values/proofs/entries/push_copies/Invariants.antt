use Rattle.std.proofs.Common.{◌≡◌, ◌++◌, take}
use Rattle.loop_values.proofs.entries.push_copies.Given as goal

-- the entries so far stand behind those that were there
abbrev pub invariant-loop-name : goal.invariant-loop-name
invariant-loop-name l = l.held.items ≡ l.fn.held.items ++ take l.name-index l.entries
