-- Lists of parts that weigh the same.
use Rattle.std.proofs.Common.{◌≡◌, ℕ, List, [], ◌∷◌, length, sum_by, refl, sym, ◌∙◌, arith}
use Rattle.std.specs.Prelude.{Bool, filter, cond, IsPermutation}
use Rattle.std.proofs.lemmas.List.Sums.{sum_by-cons, length-filter}
use Rattle.std.proofs.lemmas.List.Sorted.{sum_by-IsPermutation}
use Rattle.splittable.specs.Parts.{Stretch, part_places}
use Rattle.as_often.specs.AsOften.{AreAsOften}
use Rattle.as_often.specs.Laws.{worth}

pub order_is_no_matter : (xs ys : List Stretch) → IsPermutation xs ys → AreAsOften xs ys
order_is_no_matter xs ys p h = sym (sum_by-IsPermutation h xs ys p)

ones : (xs : List Stretch) → sum_by (λ (x : Stretch). 1) xs ≡ length xs
ones [] = refl
ones (x ∷ xs) = let r = ones xs in omega (arith, sum_by-cons (λ (y : Stretch). 1) x xs)

pub as_long : (xs ys : List Stretch) → AreAsOften xs ys → length xs ≡ length ys
as_long xs ys often = sym (ones xs) ∙ often (λ (x : Stretch). 1) ∙ ones ys

pub as_worthy : (xs ys : List Stretch) → AreAsOften xs ys → (w : ℕ → ℕ) → worth w xs ≡ worth w ys
as_worthy xs ys often w = often (λ (part : Stretch). sum_by w (part_places part))

pub as_many_pass : (xs ys : List Stretch) → AreAsOften xs ys → (test : Stretch → Bool) → length (filter test xs) ≡ length (filter test ys)
as_many_pass xs ys often test = length-filter test xs ∙ often (λ (part : Stretch). cond (test part) 1 0) ∙ sym (length-filter test ys)
