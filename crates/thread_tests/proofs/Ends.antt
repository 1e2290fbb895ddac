-- Nodes for an end's crew, and their halves.
use Rattle.std.proofs.Common.{◌≡◌, ℕ, ◌<◌, ◌≤◌, List, sym, subst, arith}
use Rattle.splittable.specs.Parts.{Stretch, AreHalves}
use Rattle.splittable.specs.Nodes.{IsNode}

pub node_to : (lens lens' : List ℕ) (least least' : ℕ) (part : Stretch) → lens' ≡ lens → least' ≡ least → IsNode lens least part → IsNode lens' least' part
node_to lens lens' least least' part a b h = subst (λ (c : List ℕ × ℕ). IsNode c.0 c.1 part) (λ i. (sym a i, sym b i)) h

-- the halves of a part have items, and are shorter
pub record AreShorter (part left right : Stretch) : Type 0 where
  pub many : 1 < part.len
  pub left_shorter : left.len < part.len
  pub right_shorter : right.len < part.len
  pub left_some : 1 ≤ left.len
  pub right_some : 1 ≤ right.len

pub shorter : (part left right : Stretch) → AreHalves part left right → 1 ≤ part.len → AreShorter part left right
shorter part left right h has =
    let all = h.together in let l = h.left_third in let r = h.right_third in record {
      many = omega arith;
      left_shorter = omega arith;
      right_shorter = omega arith;
      left_some = omega arith;
      right_some = omega arith;
    }

pub of_own_shape : (lens : List ℕ) (half : Stretch) → half.lens ≡ lens → IsNode lens 1 half → IsNode half.lens 1 half
of_own_shape lens half e h = subst (λ (l : List ℕ). IsNode l 1 half) (sym e) h
