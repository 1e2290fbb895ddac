-- How each row of ends gets an end more, in order.
use Rattle.std.proofs.Common.{◌≡◌, ℕ, zero, suc, ◌+◌, ◌<◌, ◌≤◌, List, [], ◌∷◌, ◌++◌, length, map, set, get_or, take, drop, refl, sym, ap, ◌∙◌, subst, arith}
use Rattle.std.specs.Global.{Vec}
use Rattle.part_deque.specs.Ends.{ThiefEnd}
use Rattle.fold_steal.specs.Deals.{push_column}
use Rattle.fold_steal.proofs.RowSteps.{map_set, map_get}

module _ {A : Type 0} where
  pub first_left : (k : ℕ) (xs : List A) (d : A) → get_or (drop k xs) 0 d ≡ get_or xs k d
  first_left zero xs d = refl
  first_left (suc k) [] d = refl
  first_left (suc k) (x ∷ xs) d = first_left k xs d

  then_drop : (k : ℕ) (xs : List A) → drop 1 (drop k xs) ≡ drop (suc k) xs
  then_drop zero xs = refl
  then_drop (suc k) [] = refl
  then_drop (suc k) (x ∷ xs) = then_drop k xs

  pub left_more : (k : ℕ) (xs : List A) → drop 1 (drop k xs) ≡ drop (k + 1) xs
  left_more k xs = let one : suc k ≡ k + 1 = omega arith in then_drop k xs ∙ ap (λ n. drop n xs) one

front_at : (k : ℕ) (rows : List (List ThiefEnd)) (ts : List ThiefEnd) (d : List ThiefEnd) → k < length rows → length ts ≡ length rows → get_or (take k (push_column rows ts) ++ drop k rows) k d ≡ get_or rows k d
front_at k [] ts d lt many = absurd (omega arith)
front_at k (row ∷ rows) [] d lt many = absurd (omega arith)
front_at zero (row ∷ rows) (t ∷ ts) d lt many = refl
front_at (suc k) (row ∷ rows) (t ∷ ts) d lt many = front_at k rows ts d (omega arith) (omega arith)

handed_more : (k : ℕ) (rows : List (List ThiefEnd)) (ts : List ThiefEnd) (d : List ThiefEnd) (e : ThiefEnd) → k < length rows → length ts ≡ length rows →
    set (take k (push_column rows ts) ++ drop k rows) k (get_or rows k d ++ get_or ts k e ∷ []) ≡ take (suc k) (push_column rows ts) ++ drop (suc k) rows
handed_more k [] ts d e lt many = absurd (omega arith)
handed_more k (row ∷ rows) [] d e lt many = absurd (omega arith)
handed_more zero (row ∷ rows) (t ∷ ts) d e lt many = refl
handed_more (suc k) (row ∷ rows) (t ∷ ts) d e lt many = ap (λ l. (row ++ t ∷ []) ∷ l) (handed_more k rows ts d e (omega arith) (omega arith))

-- the row at place k got the next end
pub handed_here : (rows : List (Vec ThiefEnd)) (was : List (List ThiefEnd)) (ts left : List ThiefEnd) (k : ℕ) (row new : Vec ThiefEnd) (t : ThiefEnd) → map (λ r. r.items) rows ≡ take k (push_column was ts) ++ drop k was → left ≡ drop k ts →
    row ≡ get_or rows k row → t ≡ get_or left 0 t → new.items ≡ row.items ++ t ∷ [] → k < length was → length ts ≡ length was → map (λ r. r.items) (set rows k new) ≡ take (k + 1) (push_column was ts) ++ drop (k + 1) was
handed_here rows was ts left k row new t e rest is here more lt many =
    let one : suc k ≡ k + 1 = omega arith in
    let row_is : row.items ≡ get_or was k row.items =
    ap (λ (r : Vec ThiefEnd). r.items) is ∙ sym (map_get (λ (r : Vec ThiefEnd). r.items) rows k row) ∙ ap (λ l. get_or l k row.items) e ∙ front_at k was ts row.items lt many in
    let end_is : t ≡ get_or ts k t = here ∙ ap (λ l. get_or l 0 t) rest ∙ first_left k ts t in
    map_set (λ (r : Vec ThiefEnd). r.items) rows k new
    ∙ (λ i. set (e i) k ((more ∙ (λ j. row_is j ++ end_is j ∷ [])) i))
    ∙ handed_more k was ts row.items t lt many
    ∙ ap (λ (m : ℕ). take m (push_column was ts) ++ drop m was) one

pub handed_all : (k : ℕ) (rows : List (List ThiefEnd)) (ts : List ThiefEnd) → length rows ≤ k → length ts ≡ length rows → take k (push_column rows ts) ++ drop k rows ≡ push_column rows ts
handed_all zero [] ts le many = refl
handed_all (suc k) [] ts le many = refl
handed_all zero (row ∷ rows) ts le many = absurd (omega arith)
handed_all (suc k) (row ∷ rows) [] le many = absurd (omega arith)
handed_all (suc k) (row ∷ rows) (t ∷ ts) le many = ap (λ l. (row ++ t ∷ []) ∷ l) (handed_all k rows ts (omega arith) (omega arith))
