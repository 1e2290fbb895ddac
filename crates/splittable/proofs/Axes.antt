-- A shape's four lengths and its own.
use Rattle.std.proofs.Common.{◌≡◌, ℕ, zero, suc, ◌+◌, ◌-◌, ◌/◌, ◌%◌, ◌≤◌, ◌<◌, get_or, List, [], ◌∷◌, ◌++◌, refl, length, take, replicate, sym, ap, subst, ◌∙◌, arith}
use Rattle.splittable.specs.Places.{item_count, places_after, IsOnAxis}
use Rattle.splittable.specs.Fields.{IsFourAxes, IsBox, padded, cut}
use Rattle.splittable.specs.ShapeFields.{padded-take}
use Rattle.splittable.proofs.Products.{item_count-ones, left_positive, right_positive}
use Rattle.splittable.proofs.Boxes.{padded_box, cut-padded}

pub item_count-four : (four lens : List ℕ) (axes : ℕ) → IsFourAxes four axes → take axes four ≡ lens → item_count four ≡ item_count lens
item_count-four four lens axes h view =
    ap item_count (sym (padded-take four axes h) ∙ ap padded view) ∙ item_count-ones lens (4 - length lens)

pub box_of_four : (four lens : List ℕ) (axes before n : ℕ) → IsFourAxes four axes → take axes four ≡ lens → IsBox lens before n → IsBox four before n
box_of_four four lens axes before n h view is_box =
    let P : List ℕ → Type 0 = λ ls. IsBox ls before n in
    subst P (ap padded (sym view) ∙ padded-take four axes h) (padded_box lens (4 - length lens) before n is_box)

pub cut-four : (four lens : List ℕ) (axes before n : ℕ) → IsFourAxes four axes → take axes four ≡ lens → IsBox lens before n → cut four n ≡ cut lens n
cut-four four lens axes before n h view is_box =
    ap (λ ls. cut ls n) (sym (padded-take four axes h) ∙ ap padded view) ∙ cut-padded lens (4 - length lens) before n is_box

-- on an axis that is not there each item has place 1
places_after-ones : (k before : ℕ) → places_after (replicate k 1) before ≡ replicate k 1
places_after-ones zero before = refl
places_after-ones (suc k) before =
    let one : before % 1 + 1 ≡ 1 = omega arith in
    rw (one, places_after-ones k (before / 1)) refl

places_after-append : (lens : List ℕ) (k before : ℕ) → places_after (lens ++ replicate k 1) before ≡ places_after lens before ++ replicate k 1
places_after-append [] k before = places_after-ones k before
places_after-append (len ∷ lens) k before = ap (λ ps. (before % len + 1) ∷ ps) (places_after-append lens k (before / len))

pub places_after-four : (four lens : List ℕ) (axes before : ℕ) → IsFourAxes four axes → take axes four ≡ lens →
    places_after four before ≡ places_after lens before ++ replicate (4 - length lens) 1
places_after-four four lens axes before h view =
    ap (λ ls. places_after ls before) (sym (padded-take four axes h) ∙ ap padded view) ∙ places_after-append lens (4 - length lens) before

-- each place on an axis is one of the axis's places
pub on_axis : (lens tail : List ℕ) (before axis : ℕ) → 1 ≤ item_count lens → axis < length lens → IsOnAxis (get_or lens axis 0) (get_or (places_after lens before ++ tail) axis 0)
on_axis [] tail before axis some h = absurd (omega arith)
on_axis (len ∷ lens) tail before zero some h =
    let wide : 1 ≤ len = left_positive len (item_count lens) some in
    (omega arith, omega arith)
on_axis (len ∷ lens) tail before (suc axis) some h = on_axis lens tail (before / len) axis (right_positive len (item_count lens) some) (omega arith)
