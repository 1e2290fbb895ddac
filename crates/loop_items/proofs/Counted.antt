-- How many values axes and heads have.
use Rattle.std.proofs.Common.{◌≡◌, ℕ, suc, ◌+◌, ◌*◌, ◌<◌, ◌≤◌, Bool, true, false, List, [], ◌∷◌, length, map, min, drop, get_or, refl, ap, sym, ◌∙◌, add-one, arith}
use Rattle.std.specs.Prelude.{All}
use Rattle.std.proofs.Math.Seq.{drop-cons}
use Rattle.std.proofs.lemmas.List.{length-map}
use Rattle.std.proofs.lemmas.List.Elements.{All-cons, All-nil}
use Rattle.splittable.specs.Places.{item_count}
use Rattle.loop_data.specs.declared.value.Value.{Value}
use Rattle.loop_data.specs.declared.value.Value.TheVariants.{Tuple}
use Rattle.loop_data.specs.declared.head.Axis.{Axis}
use Rattle.loop_meaning.specs.Counts.{least_count, least_of}
use Rattle.loop_meaning.specs.Items.{Sources, all_items, axis_items, combinations, side_by_side}
use Rattle.loop_meaning.proofs.CountLemmas.{each_row}
use Rattle.loop_meaning.proofs.HeadItems.{zip_items}
use Rattle.loop_items.specs.Fields.{AreAxes, head_of_axes, joined}
use Rattle.loop_items.specs.Heads.{Head}

-- as many lists as axes
pub lists_many : (axes : List Axis) (sources : Sources) → length (all_items (map axis_items axes) sources) ≡ length axes
lists_many [] sources = refl
lists_many (x ∷ xs) sources = ap suc (lists_many xs sources)

-- ---- zips

-- a zip is as long as its shortest part
pub zip_counts : (lists : List (List Value)) → length (map Tuple (side_by_side lists)) ≡ least_count (map length lists)
zip_counts lists = (zip_items lists).many

-- the least so far, and then of the others
pub least_so_far : (n m : ℕ) (ms : List ℕ) → least_of (min n m) ms ≡ least_of n (m ∷ ms)
least_so_far n m [] = refl
least_so_far n m (k ∷ ks) = let rest = least_of k ks in omega arith

-- one more part was looked at
pub least_more : (others : List (List Value)) (i : ℕ) (part : List Value) (least next start : ℕ) → i < length others → part ≡ get_or others i part →
    next ≡ min least (length part) → least_of least (map length (drop i others)) ≡ start → least_of next (map length (drop (i + 1) others)) ≡ start
least_more others i part least next start within is now so =
    let here : drop i others ≡ part ∷ drop (i + 1) others =
    drop-cons others i part within ∙ ap (λ (x : List Value). x ∷ drop (suc i) others) (sym is) ∙ ap (λ j. part ∷ drop j others) (sym (add-one i))
    in
    let rest = map length (drop (i + 1) others) in
    ap (λ n. least_of n rest) now
    ∙ least_so_far least (length part) rest
    ∙ ap (λ (xs : List (List Value)). least_of least (map length xs)) (sym here)
    ∙ so

all_from : (k : ℕ) (xs : List Value) (more : List (List Value)) → k ≤ least_of (length xs) (map length more) → All (λ (list : List Value). k ≤ length list) (xs ∷ more)
all_from k xs [] h = let P : List Value → Type 0 = λ list. k ≤ length list in All-cons P xs [] h (All-nil P)
all_from k xs (ys ∷ more) h =
    let P : List Value → Type 0 = λ list. k ≤ length list in
    let rest = least_of (length ys) (map length more) in
    All-cons P xs (ys ∷ more) (omega (arith, h)) (all_from k ys more (omega (arith, h)))

-- each list is as long as the shortest
pub all_long : (k : ℕ) (lists : List (List Value)) → 1 ≤ k → k ≤ least_count (map length lists) → All (λ (list : List Value). k ≤ length list) lists
all_long k [] some h = let P : List Value → Type 0 = λ list. k ≤ length list in All-nil P
all_long k (xs ∷ more) some h = all_from k xs more h

-- ---- products

product_counts : (lists : List (List Value)) → length (combinations lists) ≡ item_count (map length lists)
product_counts [] = refl
product_counts (xs ∷ lists) = each_row xs (combinations lists) ∙ ap (λ n. length xs * n) (product_counts lists)

-- a head has as many items as its lengths say
pub joined_counts : (product : Bool) (lists : List (List Value)) → (product ≡ false → length lists ≡ 1) → length (joined product lists) ≡ item_count (map length lists)
joined_counts true lists one = length-map (combinations lists) Tuple ∙ product_counts lists
joined_counts false [] one = absurd (let none : 0 ≡ 1 = one refl in omega (arith, none))
joined_counts false (xs ∷ []) one = omega arith
joined_counts false (xs ∷ ys ∷ more) one = absurd (let none : length (xs ∷ ys ∷ more) ≡ 1 = one refl in omega (arith, none))

-- so has an open one
pub head_counted : (lens : List ℕ) (product : Bool) (lists : List (List Value)) (head : Head) → AreAxes lens product lists →
    head_of_axes lens product lists ≡ head → item_count lens ≡ length head.items
head_counted lens product lists head axes view =
    ap item_count axes.lens_are ∙ sym (joined_counts product lists axes.one) ∙ ap (λ (h : Head). length h.items) view
