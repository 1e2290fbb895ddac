-- The leaves of a part.
use Rattle.std.proofs.Common.{◌≡◌, ℕ, zero, suc, ◌+◌, ◌-◌, ◌*◌, ◌<◌, ◌≤◌, ◌==◌, true, false, nat_le, List, [], ◌∷◌, ◌++◌, length, length-append, append-nil, refl, sym, ap, ap₂, inl, inr, ◌∙◌, arith}
use Rattle.std.specs.List.{flat_map}
use Rattle.std.proofs.lemmas.Grind.{flat_map-append}
use Rattle.std.proofs.lemmas.Bool.Decides.{nat_tests}
use Rattle.std.proofs.lemmas.Bool.{cases_lt}
use Rattle.std.proofs.Math.Nat.{mul-le-mul_right}
use Rattle.splittable.specs.Places.{item_count}
use Rattle.splittable.specs.Parts.{Stretch, left_len, left_half, right_half, whole_of, numbers_from, part_places}
use Rattle.splittable.specs.Nodes.{leaves_within, leaves_under, leaves_of, least_part_of}
use Rattle.splittable.specs.Fields.{IsPart}
use Rattle.splittable.proofs.PartHalves.{part_halves, whole_part, numbers_from-add}
use Rattle.splittable.proofs.Reached.{half, IsHalf, half_is}
use Rattle.splittable.proofs.Depths.{large_least}

pub leaves_within-leaf : (n least : ℕ) (part : Stretch) → part.len ≤ least → leaves_within n least part ≡ part ∷ []
unfolding leaves_within
leaves_within-leaf zero least part h = refl
leaves_within-leaf (suc n) least part h = let e : nat_le part.len least ≡ true = grind (arith, nat_tests) in rw e refl

pub leaves_within-longer : (n least : ℕ) (part : Stretch) → least < part.len →
    leaves_within (suc n) least part ≡ leaves_within n least (left_half part) ++ leaves_within n least (right_half part)
unfolding leaves_within
leaves_within-longer n least part h = let e : nat_le part.len least ≡ false = grind (arith, nat_tests) in rw e refl

-- more halvings than are needed change nothing
pub leaves_within-enough : (n m least : ℕ) (part : Stretch) → IsPart part → 1 ≤ least → part.len ≤ n → part.len ≤ m → leaves_within n least part ≡ leaves_within m least part
leaves_within-enough zero m least part h some le le' = absurd (omega (arith, h.some))
leaves_within-enough (suc n) zero least part h some le le' = absurd (omega (arith, h.some))
leaves_within-enough (suc n) (suc m) least part h some le le' =
    elim (cases_lt least part.len) [
      | inl longer ↦
          (let left = half_is true part h (omega arith) in
          let right = half_is false part h (omega arith) in
          leaves_within-longer n least part longer
          ∙ ap₂ (λ xs ys. xs ++ ys)
          (leaves_within-enough n m least (left_half part) left.is_part some (omega (arith, left.shorter)) (omega (arith, left.shorter)))
          (leaves_within-enough n m least (right_half part) right.is_part some (omega (arith, right.shorter)) (omega (arith, right.shorter)))
          ∙ sym (leaves_within-longer m least part longer))
      | inr short ↦ leaves_within-leaf (suc n) least part short ∙ sym (leaves_within-leaf (suc m) least part short)
    ]

-- the leaves of a part that is longer than the least part size are those of its halves
pub leaves_under-longer : (least : ℕ) (part : Stretch) → IsPart part → 1 ≤ least → least < part.len →
    leaves_under least part ≡ leaves_under least (left_half part) ++ leaves_under least (right_half part)
leaves_under-longer least part h some longer =
    let left = half_is true part h (omega arith) in
    let right = half_is false part h (omega arith) in
    leaves_within-enough part.len (suc part.len) least part h some (omega arith) (omega arith)
    ∙ leaves_within-longer part.len least part longer
    ∙ ap₂ (λ xs ys. xs ++ ys)
    (leaves_within-enough part.len (left_half part).len least (left_half part) left.is_part some (omega (arith, left.shorter)) (omega arith))
    (leaves_within-enough part.len (right_half part).len least (right_half part) right.is_part some (omega (arith, right.shorter)) (omega arith))

-- the places of the leaves, one after another, are those of the part
pub places_within : (n least : ℕ) (part : Stretch) → IsPart part → 1 ≤ least → part.len ≤ n → flat_map part_places (leaves_within n least part) ≡ part_places part
places_within zero least part h some le = absurd (omega (arith, h.some))
places_within (suc n) least part h some le =
    elim (cases_lt least part.len) [
      | inl longer ↦
          (let left = half_is true part h (omega arith) in
          let right = half_is false part h (omega arith) in
          let well = part_halves part h (omega arith) in
          let all : left_len part + (part.len - left_len part) ≡ part.len = omega (arith, well.halves.together) in
          ap (flat_map part_places) (leaves_within-longer n least part longer)
          ∙ flat_map-append part_places (leaves_within n least (left_half part)) (leaves_within n least (right_half part))
          ∙ ap₂ (λ xs ys. xs ++ ys)
          (places_within n least (left_half part) left.is_part some (omega (arith, left.shorter)))
          (places_within n least (right_half part) right.is_part some (omega (arith, right.shorter)))
          ∙ sym (numbers_from-add part.first (left_len part) (part.len - left_len part))
          ∙ ap (numbers_from part.first) all)
      | inr short ↦ ap (flat_map part_places) (leaves_within-leaf (suc n) least part short) ∙ append-nil (part_places part)
    ]

few_enough : (leaves least : ℕ) → leaves * (least + 1) ≤ 49152 * least → leaves ≤ 49151
few_enough leaves least h =
    elim (cases_lt 49151 leaves) [
      | inl many ↦ absurd (omega (arith, h, mul-le-mul_right (least + 1) many))
      | inr few ↦ few
    ]

-- a half has at least a third of a part that is longer than the least part size, so it has few leaves, a leaf itself or not
few_of_half : (n least : ℕ) (part half : Stretch) → IsHalf part half → least < part.len →
    (least < half.len → length (leaves_within n least half) * (least + 1) ≤ 3 * half.len) → length (leaves_within n least half) * (least + 1) ≤ 3 * half.len
few_of_half n least part half h longer few =
    elim (cases_lt least half.len) [
      | inl more ↦ few more
      | inr short ↦
          (let one : length (leaves_within n least half) ≡ 1 = ap length (leaves_within-leaf n least half short) in
          let e : length (leaves_within n least half) * (least + 1) ≡ least + 1 = rw one (omega arith) in
          omega (arith, e, h.third))
    ]

-- a part that isn't a leaf has few leaves
few_within : (n least : ℕ) (part : Stretch) → IsPart part → 1 ≤ least → part.len ≤ n → least < part.len →
    length (leaves_within n least part) * (least + 1) ≤ 3 * part.len
few_within zero least part h some le longer = absurd (omega (arith, h.some))
few_within (suc n) least part h some le longer =
    let left = half_is true part h (omega arith) in
    let right = half_is false part h (omega arith) in
    let well = part_halves part h (omega arith) in
    let few_left : length (leaves_within n least (left_half part)) * (least + 1) ≤ 3 * (left_half part).len =
    few_of_half n least part (left_half part) left longer (few_within n least (left_half part) left.is_part some (omega (arith, left.shorter))) in
    let few_right : length (leaves_within n least (right_half part)) * (least + 1) ≤ 3 * (right_half part).len =
    few_of_half n least part (right_half part) right longer (few_within n least (right_half part) right.is_part some (omega (arith, right.shorter))) in
    let both : length (leaves_within (suc n) least part) ≡ length (leaves_within n least (left_half part)) + length (leaves_within n least (right_half part)) =
    ap length (leaves_within-longer n least part longer) ∙ length-append (leaves_within n least (left_half part)) (leaves_within n least (right_half part)) in
    rw both (omega (arith, few_left, few_right, well.halves.together))

pub leaves_of-none : (lens : List ℕ) (least : ℕ) → item_count lens ≡ 0 → leaves_of lens least ≡ []
leaves_of-none lens least e = rw e refl

pub leaves_of-some : (lens : List ℕ) (least : ℕ) → 1 ≤ item_count lens → leaves_of lens least ≡ leaves_under least (whole_of lens)
leaves_of-some lens least some = let e : (item_count lens == 0) ≡ false = grind (arith, nat_tests) in rw e refl

pub places_of_leaves : (lens : List ℕ) (least : ℕ) → 1 ≤ least → flat_map part_places (leaves_of lens least) ≡ numbers_from 1 (item_count lens)
unfolding numbers_from
places_of_leaves lens least large =
    elim (cases_lt 0 (item_count lens)) [
      | inl some ↦
          (let some' : 1 ≤ item_count lens = omega arith in
          ap (flat_map part_places) (leaves_of-some lens least some')
          ∙ places_within (item_count lens) least (whole_of lens) (whole_part lens some') large (omega arith))
      | inr none ↦
          (let e : item_count lens ≡ 0 = omega arith in
          ap (flat_map part_places) (leaves_of-none lens least e) ∙ ap (numbers_from 1) (sym e))
    ]

pub leaves_are_few : (lens : List ℕ) (least base : ℕ) → 1 ≤ base → least_part_of base (item_count lens) ≤ least → length (leaves_of lens least) ≤ 49151
leaves_are_few lens least base one large =
    elim (cases_lt 0 (item_count lens)) [
      | inl some ↦
          (let some' : 1 ≤ item_count lens = omega arith in
          rw (leaves_of-some lens least some')
          (elim (cases_lt least (item_count lens)) [
            | inl longer ↦
                (let few : length (leaves_under least (whole_of lens)) * (least + 1) ≤ 3 * item_count lens =
                few_within (item_count lens) least (whole_of lens) (whole_part lens some') (omega (arith, large)) (omega arith) longer in
                few_enough (length (leaves_under least (whole_of lens))) least (omega (arith, few, large, large_least base (item_count lens))))
            | inr short ↦ omega (arith, ap length (leaves_within-leaf (item_count lens) least (whole_of lens) short))
          ]))
      | inr none ↦ omega (arith, ap length (leaves_of-none lens least (omega arith)))
    ]
