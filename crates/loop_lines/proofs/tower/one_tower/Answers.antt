use Rattle.loop_lines.proofs.Towers.{one_tower}
use Rattle.loop_lines.proofs.tower.one_tower.Goals as goal

pub returns : goal.returns
returns c = one_tower
