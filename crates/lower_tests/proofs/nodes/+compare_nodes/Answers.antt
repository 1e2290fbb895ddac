use Rattle.std.proofs.Common.{rules, arith, ◌∙◌}
use Rattle.lower_tests.proofs.Halves.{are_shorter_nodes}
use Rattle.lower_tests.proofs.nodes.+compare_nodes.Goals as goal

-- the left half is a shorter node of the same shape
pub compare_nodes-requires : goal.compare_nodes-requires
compare_nodes-requires g t c κs within =
    let e = c.in-Some.ensures in
    let s = are_shorter_nodes (g.N.NodeTexts.lens c.args.nodes.now) c.args.part.now c.in-Some.halves.0 c.in-Some.halves.1 c.requires.node e.cut_left e.cut_right e.halves in
    let shorter = s.left_shorter in
    (search (rules, shorter), (search rules, (e.halves.left_lens ∙ c.requires.lens, s.left_node)))

-- the right half is a shorter node of the same shape
pub compare_nodes-requires-2 : goal.compare_nodes-requires-2
compare_nodes-requires-2 g t c κs within =
    let e = c.in-Some.ensures in
    let s = are_shorter_nodes (g.N.NodeTexts.lens c.args.nodes.now) c.args.part.now c.in-Some.halves.0 c.in-Some.halves.1 c.requires.node e.cut_left e.cut_right e.halves in
    let shorter = s.right_shorter in
    (search (rules, shorter), (search rules, (e.halves.right_lens ∙ c.requires.lens, s.right_node)))
