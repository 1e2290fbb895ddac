use Rattle.std.proofs.Common.{◌∙◌, sym, arith}
use Rattle.thread_tests.proofs.Ends.{node_to, shorter, of_own_shape}
use Rattle.thread_tests.proofs.part_deques.+push_leaves.Goals as goal

pub push_leaves-refused-requires : goal.push_leaves-refused-requires
push_leaves-refused-requires t c =
    let h = c.in-Some.ensures.halves in
    let s = shorter _ _ _ h c.requires.some in
    let n = c.in-Some.ensures.nodes 1 c.requires.node s.many in
    let measure = c.decreases in (
      omega (arith, s.left_shorter),
      (h.left_lens ∙ c.requires.lens, (of_own_shape _ _ h.left_lens n.0, (c.requires.least, s.left_some))),
    )

pub push_leaves-requires : goal.push_leaves-requires
push_leaves-requires t c =
    let h = c.in-Some.ensures.halves in
    let s = shorter _ _ _ h c.requires.some in
    let n = c.in-Some.ensures.nodes 1 c.requires.node s.many in
    let same = c.push_leaves-refused.ensures.same in
    let measure = c.decreases in (
      omega (arith, s.right_shorter),
      (h.right_lens ∙ c.requires.lens ∙ sym same.lens, (of_own_shape _ _ h.right_lens n.1, (same.least ∙ c.requires.least, s.right_some))),
    )

pub push-requires : goal.push-requires
push-requires t c = record { node = node_to _ _ _ _ _ (sym c.requires.lens) c.requires.least c.requires.node }
