use Rattle.std.proofs.Common.{rules}
use Rattle.tower_inputs.proofs.SameTowers.{same_tower-sound, same_tower-along}
use Rattle.tower_inputs.proofs.towers.is_same_tower.Goals as goal

pub returns-clause-same : goal.returns-clause-same
returns-clause-same c = search (rules, same_tower-sound, same_tower-along)
