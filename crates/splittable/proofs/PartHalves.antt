-- The halves of a part are parts, one after the other.
use Rattle.std.proofs.Common.{◌≡◌, ℕ, zero, suc, ◌+◌, ◌-◌, ◌≤◌, List, ◌∷◌, ◌++◌, length, refl, sym, ap, subst, ◌∙◌, arith}
use Rattle.splittable.specs.Places.{item_count, places_after}
use Rattle.splittable.specs.Parts.{Stretch, numbers_from, widths, left_of_cut, left_len, left_half, right_half, whole_of, AreHalves}
use Rattle.splittable.specs.Fields.{IsBox, IsPart, cut}
use Rattle.splittable.proofs.Boxes.{cut_box, whole_box}

pub length-numbers_from : (first n : ℕ) → length (numbers_from first n) ≡ n
unfolding numbers_from
length-numbers_from first zero = refl
length-numbers_from first (suc n) = omega (arith, length-numbers_from (suc first) n)

pub numbers_from-add : (first m n : ℕ) → numbers_from first (m + n) ≡ numbers_from first m ++ numbers_from (first + m) n
unfolding numbers_from
numbers_from-add first zero n =
    let e : 0 + n ≡ n = omega arith in
    let e2 : first + 0 ≡ first = omega arith in
    rw (e, e2) refl
numbers_from-add first (suc m) n =
    let e : suc m + n ≡ suc (m + n) = omega arith in
    let e2 : first + suc m ≡ suc first + m = omega arith in
    rw (e, e2) (ap (λ ys. first ∷ ys) (numbers_from-add (suc first) m n))

-- where a part is cut, by the lengths alone
pub left_len-cut : (part : Stretch) → IsPart part → 2 ≤ part.len → left_len part ≡ cut part.lens part.len
unfolding left_len
left_len-cut part h many =
    let c = cut_box part.lens (part.first - 1) part.len many h.box in
    let last : part.first + part.len - 1 - 1 ≡ part.first - 1 + part.len - 1 = omega (arith, h.from_one, many) in
    ap (λ n. left_of_cut part.lens (widths (places_after part.lens (part.first - 1)) (places_after part.lens n))) last ∙ c.windows

-- the halves of a part
pub record HalvesWell (part : Stretch) : Type 0 where
  pub halves : AreHalves part (left_half part) (right_half part)
  pub left : IsPart (left_half part)
  pub right : IsPart (right_half part)

pub part_halves : (part : Stretch) → IsPart part → 2 ≤ part.len → HalvesWell part
part_halves part h many =
    let c = cut_box part.lens (part.first - 1) part.len many h.box in
    let e : left_len part ≡ cut part.lens part.len = left_len-cut part h many in
    let next : part.first + left_len part - 1 ≡ part.first - 1 + cut part.lens part.len = omega (arith, h.from_one, e) in
    let rest : part.len - left_len part ≡ part.len - cut part.lens part.len = ap (λ n. part.len - n) e in
    record {
      halves = record {
        left_lens = refl;
        right_lens = refl;
        begins = refl;
        next = refl;
        together = omega (arith, e, c.high);
        left_third = omega (arith, e, c.left_third);
        right_third = omega (arith, e, c.right_third);
      };
      left = record {
        from_one = h.from_one;
        some = omega (arith, e, c.low);
        within = omega (arith, e, c.high, h.within);
        box = (let P : ℕ → Type 0 = λ n. IsBox part.lens (part.first - 1) n in subst P (sym e) c.left);
      };
      right = record {
        from_one = omega (arith, h.from_one);
        some = omega (arith, e, c.high);
        within = omega (arith, e, c.high, h.within);
        box = rw (next, rest) c.right;
      };
    }

-- all places of a shape
pub whole_part : (lens : List ℕ) → 1 ≤ item_count lens → IsPart (whole_of lens)
whole_part lens some = record {
  from_one = omega arith;
  some = some;
  within = omega arith;
  box = whole_box lens;
}
