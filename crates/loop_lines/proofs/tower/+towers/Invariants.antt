use Rattle.std.proofs.Common.{length, ◌+◌, ◌*◌}
use Rattle.loop_lines.proofs.tower.+towers.Given as goal

abbrev pub decreases-tower : goal.decreases-tower
decreases-tower l = 4 * length l.tokens.now

abbrev pub decreases-tower_up_to : goal.decreases-tower_up_to
decreases-tower_up_to l = 4 * length l.tokens.now + 1

abbrev pub decreases-group : goal.decreases-group
decreases-group l = 4 * length l.tokens.now + 2

abbrev pub decreases-both : goal.decreases-both
decreases-both l = 4 * length l.tokens.now + 2
