-- Walks from item to item.
use Rattle.std.proofs.Common.{◌≡◌, ℕ, zero, suc, ◌+◌, ◌-◌, ◌%◌, ◌/◌, ◌<◌, ◌≤◌, List, [], ◌∷◌, ◌++◌, length, take, drop, min, length-take, length-drop, replicate, Some, refl, ap, sym, subst, ◌∙◌, arith}
use Rattle.std.specs.Prelude.{slice_get}
use Rattle.std.proofs.Math.Seq.{drop-cons}
use Rattle.std.proofs.lemmas.Option.{get_or_from_slice_get, slice_get_within}
use Rattle.splittable.specs.Fields.{padded}
use Rattle.splittable.specs.Places.{AreOnAxes, item_count, places_after, places_on_four}
use Rattle.splittable.proofs.Axes.{on_axis}
use Rattle.splittable.proofs.Products.{item_count-ones}
use Rattle.loop_data.specs.declared.value.Value.{Value}
use Rattle.loop_items.specs.Places.{next_places}
use Rattle.loop_items.specs.WalkFields.{IsOnWay}
use Rattle.loop_items.specs.Walks.{items_from}
use Rattle.loop_items.proofs.Steps.{next_after}

-- on an axis that isn't there each item has place 1
places_of_ones : (k before : ℕ) → places_after (replicate k 1) before ≡ replicate k 1
places_of_ones zero before = refl
places_of_ones (suc k) before =
    let one : before % 1 + 1 ≡ 1 = omega arith in
    rw (one, places_of_ones k (before / 1)) refl

places_with_ones : (lens : List ℕ) (k before : ℕ) → places_after (lens ++ replicate k 1) before ≡ places_after lens before ++ replicate k 1
places_with_ones [] k before = places_of_ones k before
places_with_ones (len ∷ lens) k before = ap (λ ps. (before % len + 1) ∷ ps) (places_with_ones lens k (before / len))

-- the places on the axes and on those that aren't there
pub padded_places : (lens : List ℕ) (place : ℕ) → places_after (padded lens) (place - 1) ≡ places_on_four lens place
padded_places lens place = places_with_ones lens (4 - length lens) (place - 1)

-- a walk begins on its way
pub on_way_at : (lens other four places : List ℕ) (first len : ℕ) → other ≡ lens → four ≡ padded lens → 1 ≤ first → 1 ≤ len → first + len ≤ item_count other + 1 →
    places ≡ places_on_four other first → IsOnWay lens four places first (first + len)
on_way_at lens other four places first len same four_is low some within at =
    let count : item_count other ≡ item_count lens = ap item_count same in record {
      padded_is = four_is;
      some = omega (arith, within, low, some, count);
      from = low;
      to = omega arith;
      within = omega (arith, within, count);
      places_are =
          at ∙ ap (λ ls. places_on_four ls first) same ∙ sym (padded_places lens first) ∙ ap (λ ls. places_after ls (first - 1)) (sym four_is);
    }

module _ (lens four places : List ℕ) (place end : ℕ) (way : IsOnWay lens four places place end) where
  pub on_four : places ≡ places_on_four lens place
  on_four = way.places_are ∙ ap (λ ls. places_after ls (place - 1)) way.padded_is ∙ padded_places lens place

  -- each of the places is on its axis
  pub on_axes : AreOnAxes lens places
  on_axes = let P : List ℕ → Type 0 = AreOnAxes lens in subst P (sym on_four) (λ axis h. on_axis lens (replicate (4 - length lens) 1) (place - 1) axis way.some h)

  -- one item further on
  pub on_way : place < end → IsOnWay lens four (next_places four places) (place + 1) end
  on_way before =
      let positive : 1 ≤ item_count four = omega (arith, way.some, ap item_count way.padded_is, item_count-ones lens (4 - length lens)) in
      let next : place - 1 + 1 ≡ place + 1 - 1 = omega (arith, way.from) in
      record {
        padded_is = way.padded_is;
        some = way.some;
        from = omega arith;
        to = omega (arith, before);
        within = way.within;
        places_are = ap (next_places four) way.places_are ∙ next_after four (place - 1) positive ∙ ap (places_after four) next;
      }

-- the items from a place on are the item there and those from the next place on
pub one_taken : (items : List Value) (item : Value) (place end : ℕ) → 1 ≤ place → place < end → slice_get items (place - 1) ≡ Some item →
    items_from items place (end - place) ≡ item ∷ items_from items (place + 1) (end - (place + 1))
one_taken items item place end low high is =
    let within : place - 1 < length items = slice_get_within items (place - 1) item is in
    let next : suc (place - 1) ≡ place + 1 - 1 = omega (arith, low) in
    let count : end - place ≡ suc (end - (place + 1)) = omega (arith, high) in
    ap (λ n. take n (drop (place - 1) items)) count
    ∙ ap (take (suc (end - (place + 1)))) (drop-cons items (place - 1) item within)
    ∙ ap (λ x. x ∷ take (end - (place + 1)) (drop (suc (place - 1)) items)) (get_or_from_slice_get items (place - 1) item item is)
    ∙ ap (λ n. item ∷ take (end - (place + 1)) (drop n items)) next

-- before its end a walk has an item
pub some_left : (items : List Value) (place end : ℕ) → 1 ≤ place → place < end → end ≤ length items + 1 → items_from items place (end - place) ≡ [] → ⊥
some_left items place end low before within none =
    let many : length (take (end - place) (drop (place - 1) items)) ≡ min (end - place) (length (drop (place - 1) items)) = length-take (end - place) (drop (place - 1) items) in
    let rest : length (drop (place - 1) items) ≡ length items - (place - 1) = length-drop (place - 1) items in
    let taken : length (take (end - place) (drop (place - 1) items)) ≡ 0 = ap length none in
    omega (arith, taken, many, rest, low, before, within)
