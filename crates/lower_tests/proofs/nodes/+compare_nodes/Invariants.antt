use Rattle.lower_tests.proofs.nodes.+compare_nodes.Given as goal

-- halves are shorter
abbrev pub decreases-compare_nodes : goal.decreases-compare_nodes
decreases-compare_nodes g l = l.part.now.len
