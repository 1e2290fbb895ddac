use Rattle.std.proofs.Common.{◌≡◌, ℕ, Some, length, []}
use Rattle.std.specs.Prelude.{slice_get}
use Rattle.reducer_tower.specs.declared.named.Named.{Named}
use Rattle.reducer_tower.specs.declared.state.TowerState.{TowerState}
use Rattle.reducer_tower.specs.Stands.{Stands}
use Rattle.reducer_tower.proofs.RowLemmas.{UnitsOf}
use Rattle.reducer_tower.proofs.row.RowReducer.unit.Given as goal

abbrev pub invariant-loop-named : goal.invariant-loop-named
invariant-loop-named l = (length l.states.items ≡ l.named-index) × UnitsOf l.named-items l.states.items
