use Rattle.std.proofs.Common.{arith}
use Rattle.edge_io.proofs.GrowthLemmas.{GrowsByAtMost-none}
use Rattle.edge_io.proofs.host.read_file.Goals as goal

pub loop-init : goal.loop-init
loop-init g c = record { grown = GrowsByAtMost-none _ _; within = omega arith }
