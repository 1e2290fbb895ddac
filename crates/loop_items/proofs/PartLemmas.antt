-- The items of parts.
use Rattle.std.proofs.Common.{◌≡◌, ◌≤◌, ◌<◌, ◌+◌, ◌-◌, ℕ, zero, suc, List, ◌∷◌, ◌++◌, length, map, take, drop, get_or, Some, refl, sym, ap, ap₂, ◌∙◌, arith}
use Rattle.std.specs.Prelude.{slice_get}
use Rattle.std.proofs.Math.Seq.{drop-cons, take-add, take-length}
use Rattle.std.proofs.lemmas.List.{drop-drop}
use Rattle.std.proofs.lemmas.Option.{slice_get-get_or}
use Rattle.splittable.specs.Parts.{numbers_from}
use Rattle.loop_data.specs.declared.value.Value.{Value}
use Rattle.loop_data.specs.declared.value.Value.TheVariants.{Nothing}
use Rattle.loop_items.specs.Laws.{NeighboursHaveItems, PartsHaveItemsOfPlaces, WholeHasAllItems}

items_at : (items : List Value) (n first : ℕ) → 1 ≤ first → first + n ≤ length items + 1 →
    map Some (take n (drop (first - 1) items)) ≡ map (λ place. slice_get items (place - 1)) (numbers_from first n)
unfolding numbers_from
items_at items zero first low high = refl
items_at items (suc n) first low high =
    let within : first - 1 < length items = omega (arith, low, high) in
    let x = get_or items (first - 1) Nothing in
    let next : suc (first - 1) ≡ suc first - 1 = omega (arith, low) in
    ap (λ xs. map Some (take (suc n) xs)) (drop-cons items (first - 1) Nothing within)
    ∙ ap (λ k. Some x ∷ map Some (take n (drop k items))) next
    ∙ ap₂ (λ o os. o ∷ os) (sym (slice_get-get_or items (first - 1) Nothing within)) (items_at items n (suc first) (omega arith) (omega (arith, high)))

pub items_of_places : PartsHaveItemsOfPlaces
items_of_places items part low high = items_at items part.len part.first low high

pub whole_has_all : WholeHasAllItems
whole_has_all items lens e = ap (λ n. take n items) e ∙ take-length items

pub neighbours_have : NeighboursHaveItems
neighbours_have items left right low next =
    let there : right.first - 1 ≡ (left.first - 1) + left.len = omega (arith, low, next) in
    ap (λ k. take left.len (drop (left.first - 1) items) ++ take right.len (drop k items)) there
    ∙ ap (λ ys. take left.len (drop (left.first - 1) items) ++ take right.len ys) (sym (drop-drop left.len (left.first - 1) items))
    ∙ sym (take-add left.len right.len (drop (left.first - 1) items))
