use Rattle.base_tests.proofs.shapes.+leaves.Given as goal

abbrev pub decreases-leaves : goal.decreases-leaves
decreases-leaves l = l.part.now.len
