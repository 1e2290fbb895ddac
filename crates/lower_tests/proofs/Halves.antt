-- The halves of a node are shorter nodes.
use Rattle.std.proofs.Common.{◌≡◌, ℕ, ◌+◌, ◌*◌, ◌<◌, ◌≤◌, List, sym, subst, arith}
use Rattle.splittable.specs.Parts.{Stretch, left_half, right_half, AreHalves}
use Rattle.splittable.specs.Nodes.{IsNode}
use Rattle.splittable.proofs.Nodes.{halves_are_nodes}
use Rattle.splittable.proofs.Nesting.{node_lies}

pub record AreShorterNodes (lens : List ℕ) (part left right : Stretch) : Type 0 where
  pub left_node : IsNode lens 1 left
  pub right_node : IsNode lens 1 right
  pub left_shorter : left.len < part.len
  pub right_shorter : right.len < part.len

pub are_shorter_nodes : (lens : List ℕ) (part left right : Stretch) → IsNode lens 1 part → left ≡ left_half part → right ≡ right_half part →
    AreHalves part left right → AreShorterNodes lens part left right
are_shorter_nodes lens part left right node left_is right_is halves =
    let lies = node_lies lens 1 part node in
    let some : 1 ≤ part.len = lies.2 in
    let many : 1 < part.len = omega (arith, some, halves.together, halves.left_third, halves.right_third) in
    let both = halves_are_nodes lens 1 part many node many in
    record {
      left_node = subst (IsNode lens 1) (sym left_is) both.0;
      right_node = subst (IsNode lens 1) (sym right_is) both.1;
      left_shorter = omega (arith, some, halves.together, halves.left_third, halves.right_third);
      right_shorter = omega (arith, some, halves.together, halves.left_third, halves.right_third);
    }
