-- The loops of the first deal.
use Rattle.std.proofs.Common.{◌≡◌, ℕ, zero, suc, ◌+◌, ◌-◌, ◌<◌, ◌≤◌, Bool, true, false, if◌then◌else◌, List, [], ◌∷◌, ◌++◌, length, take, drop, set, get_or, max, refl, sym, ap, ◌∙◌, subst, arith}
use Rattle.std.specs.Prelude.{nat_le, ◌==◌}
use Rattle.std.specs.List.{insert}
use Rattle.std.proofs.lemmas.Bool.{leb-true, le-leb, eqb-true, eq-eqb}
use Rattle.std.proofs.lemmas.List.{take_more}
use Rattle.splittable.specs.Parts.{Stretch, left_half, right_half}
use Rattle.fold_steal.specs.Deals.{longest, halve_first, deal_rounds}

not_equal : (a b : ℕ) (t : Bool) → (a == b) ≡ t → (a ≡ b → ⊥) → (a == b) ≡ false
not_equal a b true is h = absurd (h (eqb-true a b is))
not_equal a b false is h = is

not_less : (a b : ℕ) (t : Bool) → nat_le a b ≡ t → b < a → nat_le a b ≡ false
not_less a b true is lt = absurd (let le = leb-true a b is in omega arith)
not_less a b false is lt = is

-- the longest of one part more
longest_push : (xs : List Stretch) (x : Stretch) → longest (xs ++ x ∷ []) ≡ max (longest xs) x.len
longest_push [] x = omega arith
longest_push (y ∷ ys) x = let rest = longest_push ys x in omega (arith, rest)

pub longest_more : (xs : List Stretch) (k : ℕ) (x : Stretch) (len : ℕ) → k < length xs → x ≡ get_or xs k x → len ≡ longest (take k xs) → max len x.len ≡ longest (take (k + 1) xs)
longest_more xs k x len lt is so_far =
    let more : longest (take (k + 1) xs) ≡ longest (take k xs ++ x ∷ []) = ap longest (take_more xs k x lt ∙ ap (λ y. take k xs ++ y ∷ []) (sym is)) in
    let push = longest_push (take k xs) x in
    omega (arith, more, push, so_far)

-- none of the first parts has this length
abbrev pub NoneBefore : ℕ → ℕ → List Stretch → Type 0
NoneBefore len zero xs = Unit {0}
NoneBefore len (suc k) [] = Unit {0}
NoneBefore len (suc k) (x ∷ xs) = ((x.len == len) ≡ false) × NoneBefore len k xs

none_before : (len : ℕ) (xs : List Stretch) → NoneBefore len 0 xs
none_before len [] = tt
none_before len (x ∷ xs) = tt

next_none : (len k : ℕ) (xs : List Stretch) (d : Stretch) → k < length xs → ((get_or xs k d).len == len) ≡ false → NoneBefore len k xs → NoneBefore len (suc k) xs
next_none len k [] d lt is h = tt
next_none len zero (x ∷ xs) d lt is h = (is, none_before len xs)
next_none len (suc k) (x ∷ xs) d lt is h = (h.0, next_none len k xs d (omega arith) is h.1)

pub none_more : (len k : ℕ) (xs items : List Stretch) (x : Stretch) → items ≡ xs → k < length xs → x ≡ get_or items k x → (x.len ≡ len → ⊥) → NoneBefore len k xs → NoneBefore len (k + 1) xs
none_more len k xs items x e lt is other h =
    let test = not_equal x.len len (x.len == len) refl other in
    let here : x ≡ get_or xs k x = is ∙ ap (λ l. get_or l k x) e in
    let one : suc k ≡ k + 1 = omega arith in
    subst (λ n. NoneBefore len n xs) one (next_none len k xs x lt (subst (λ (y : Stretch). (y.len == len) ≡ false) here test) h)

-- no part has this length
pub none_halved : (len k : ℕ) (xs : List Stretch) → length xs ≤ k → NoneBefore len k xs → xs ≡ halve_first len xs
none_halved len k [] le h = refl
none_halved len zero (x ∷ xs) le h = absurd (omega arith)
none_halved len (suc k) (x ∷ xs) le h =
    ap (λ l. x ∷ l) (none_halved len k xs (omega arith) h.1) ∙ ap (λ b. if b then left_half x ∷ right_half x ∷ xs else x ∷ halve_first len xs) (sym h.0)

halved_at : (len k : ℕ) (xs : List Stretch) (d : Stretch) → k < length xs → ((get_or xs k d).len == len) ≡ true → NoneBefore len k xs →
    insert (set xs k (right_half (get_or xs k d))) k (left_half (get_or xs k d)) ≡ halve_first len xs
halved_at len k [] d lt is h = absurd (omega arith)
halved_at len zero (x ∷ xs) d lt is h = ap (λ b. if b then left_half x ∷ right_half x ∷ xs else x ∷ halve_first len xs) (sym is)
halved_at len (suc k) (x ∷ xs) d lt is h =
    ap (λ l. x ∷ l) (halved_at len k xs d (omega arith) is h.1) ∙ ap (λ b. if b then left_half x ∷ right_half x ∷ xs else x ∷ halve_first len xs) (sym h.0)

-- the first part of this length, at place k, was replaced by its halves
pub halved_here : (len k : ℕ) (xs items new : List Stretch) (x left right : Stretch) → items ≡ xs → k < length xs → x ≡ get_or items k x → x.len ≡ len → NoneBefore len k xs → left ≡ left_half x → right ≡ right_half x →
    new ≡ insert (set items k right) k left → new ≡ halve_first len xs
halved_here len k xs items new x left right e lt is equal h cut cut' was =
    let test = eq-eqb x.len len equal in
    let here : x ≡ get_or xs k x = is ∙ ap (λ l. get_or l k x) e in
    was ∙ (λ i. insert (set (e i) k ((cut' ∙ ap right_half here) i)) k ((cut ∙ ap left_half here) i)) ∙ halved_at len k xs x lt (subst (λ (y : Stretch). (y.len == len) ≡ true) here test) h

-- ---- rounds

-- no part is longer than the least part size: what is left to do leaves the parts
pub rounds_done : (n least : ℕ) (parts : List Stretch) → longest parts ≤ least → parts ≡ deal_rounds n least parts
rounds_done zero least parts le = refl
rounds_done (suc n) least parts le = let is = le-leb (longest parts) least le in ap (λ b. if b then parts else deal_rounds n least (halve_first (longest parts) parts)) (sym is)

pub rounds_next : (rounds k least : ℕ) (parts new : List Stretch) → k < rounds → least < longest parts → new ≡ halve_first (longest parts) parts → deal_rounds (rounds - (k + 1)) least new ≡ deal_rounds (rounds - k) least parts
rounds_next rounds k least parts new lt long e =
    let is = not_less (longest parts) least (nat_le (longest parts) least) refl long in
    let n : rounds - k ≡ suc (rounds - (k + 1)) = omega arith in
    ap (deal_rounds (rounds - (k + 1)) least) e
    ∙ ap (λ b. if b then parts else deal_rounds (rounds - (k + 1)) least (halve_first (longest parts) parts)) (sym is)
    ∙ ap (λ m. deal_rounds m least parts) (sym n)

pub rounds_over : (rounds k least : ℕ) (parts : List Stretch) → rounds ≤ k → parts ≡ deal_rounds (rounds - k) least parts
rounds_over rounds k least parts le = let z : 0 ≡ rounds - k = omega arith in ap (λ m. deal_rounds m least parts) z
