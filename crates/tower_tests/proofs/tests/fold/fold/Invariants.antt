use Rattle.std.proofs.Common.{take}
use Rattle.reducer_tower.specs.Stands.{Stands}
use Rattle.tower_tests.proofs.tests.fold.fold.Given as goal

abbrev pub invariant-loop-input : goal.invariant-loop-input
invariant-loop-input g l = Stands l.tower.kind l.state (take l.input-index l.inputs)
