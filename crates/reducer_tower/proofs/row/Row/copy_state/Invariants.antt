use Rattle.std.proofs.Common.{◌≡◌, take}
use Rattle.reducer_tower.proofs.row.Row.copy_state.Given as goal

abbrev pub invariant-loop-state : goal.invariant-loop-state
invariant-loop-state l = l.states.items ≡ take l.state-index l.state-items
