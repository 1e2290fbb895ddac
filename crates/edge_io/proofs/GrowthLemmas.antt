-- A list that grows at its end by a bounded number of items.
use Rattle.std.proofs.Common.{ℕ, List, [], arith}
use Rattle.std.proofs.lemmas.Grind.{common_steps}
use Rattle.edge_io.specs.Reading.{GrowsByAtMost}

pub GrowsByAtMost-none : (n : ℕ) (xs : List ℕ) → GrowsByAtMost n xs xs
GrowsByAtMost-none n xs = record { grown = []; follows = grind (arith, common_steps); bounded = omega arith }
