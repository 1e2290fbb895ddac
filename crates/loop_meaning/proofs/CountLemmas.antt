-- How many items products and zips have, and which item of a product stands at a place.
use Rattle.std.proofs.Common.{◌≡◌, Bool, true, false, ℕ, zero, suc, ◌+◌, ◌*◌, ◌/◌, ◌%◌, ◌<◌, Option, Some, None, List, [], ◌∷◌, ◌++◌, length, map, min, refl, ap, ap₂, sym, subst, ◌∙◌, length-append, arith}
use Rattle.std.specs.Ordering.{int_eq}
use Rattle.std.specs.Prelude.{if◌then◌else◌, ℤ, pos, flat_map, option_and_then, option_map, slice_get}
use Rattle.std.proofs.Math.Nat.{lt_of_mul-lt-mul_left, mod-add-div, mod-lt}
use Rattle.std.proofs.lemmas.Option.{slice_get-map}
use Rattle.std.proofs.lemmas.List.{length-map}
use Rattle.loop_data.specs.declared.value.Value.{Value}
use Rattle.number_ranges.specs.Ranges.{range_count, range_items}
use Rattle.number_ranges.proofs.Items.{length-items_from}
use Rattle.loop_data.specs.declared.value.Value.TheVariants.{Int, Text, Tuple}
use Rattle.loop_data.specs.declared.head.Axis.{Axis, fold-roll-Axis, ind-Axis, map-Axis}
use Rattle.loop_data.specs.declared.head.Axis.TheOpen.{Axis-F, Axis-F as a}
use Rattle.column_input.specs.Table.{column_of}
use Rattle.loop_values.specs.Values.{value_of}
use Rattle.loop_meaning.specs.Counts.{Counting, all_counts, axis_count, axis_count_step, column_count, least_count, numbers_count, only_count, product_of}
use Rattle.loop_meaning.specs.Items.{Listing, Sources, all_items, axis_items, axis_step, column_items, combinations, in_front, number_of, numbers, only_axis, side_by_side, sources_of, step_number}
use Rattle.loop_meaning.specs.Laws.{AxesAreCounted, ItemsAreCounted, ProductHoldsDigits, ZipHoldsItems, at_place}

-- each row gives as many rows as there are values
pub each_row : (xs : List Value) (rows : List (List Value)) → length (flat_map (λ row. map (λ x. x ∷ row) xs) rows) ≡ length xs * length rows
each_row xs [] = omega arith
each_row xs (row ∷ rows) =
    let here : length (map (λ x. x ∷ row) xs) ≡ length xs = length-map xs (λ x. x ∷ row) in
    length-append (map (λ x. x ∷ row) xs) (flat_map (λ row. map (λ x. x ∷ row) xs) rows)
    ∙ ap (λ n. n + length (flat_map (λ row. map (λ x. x ∷ row) xs) rows)) here
    ∙ ap (λ n. length xs + n) (each_row xs rows)
    ∙ (omega arith)

pub product_counts : (lists : List (List Value)) → length (combinations lists) ≡ product_of (map length lists)
product_counts [] = refl
product_counts (xs ∷ lists) = each_row xs (combinations lists) ∙ ap (λ n. length xs * n) (product_counts lists)

front_counts : (xs : List Value) (rows : List (List Value)) → length (in_front xs rows) ≡ min (length xs) (length rows)
front_counts [] rows = omega arith
front_counts (x ∷ xs) [] = omega arith
front_counts (x ∷ xs) (row ∷ rows) = ap suc (front_counts xs rows) ∙ (omega arith)

pub zip_counts : (lists : List (List Value)) → length (side_by_side lists) ≡ least_count (map length lists)
zip_counts [] = refl
zip_counts (xs ∷ []) = length-map xs (λ x. x ∷ [])
zip_counts (xs ∷ ys ∷ lists) = front_counts xs (side_by_side (ys ∷ lists)) ∙ ap (min (length xs)) (zip_counts (ys ∷ lists))

-- ---- the item of a product at a place

get_front : {A : Type 0} (xs ys : List A) (i : ℕ) → i < length xs → slice_get (xs ++ ys) i ≡ slice_get xs i
get_front [] ys i h = absurd (omega arith)
get_front (x ∷ xs) ys zero h = refl
get_front (x ∷ xs) ys (suc i) h = get_front xs ys i (omega arith)

get_back : {A : Type 0} (xs ys : List A) (i j : ℕ) → j ≡ length xs + i → slice_get (xs ++ ys) j ≡ slice_get ys i
get_back [] ys i j e = ap (slice_get ys) (omega (arith, e))
get_back (x ∷ xs) ys i zero e = absurd (omega arith)
get_back (x ∷ xs) ys i (suc j) e = get_back xs ys i j (omega arith)

then_some : {A B : Type 0} (f : A → B) (o : Option A) → option_map f o ≡ option_and_then (λ x. Some (f x)) o
then_some f None = refl
then_some f (Some x) = refl

-- the value at i in front of the row at j
abbrev chosen : List Value → List (List Value) → ℕ → ℕ → Option (List Value)
chosen xs rows i j = option_and_then (λ x. option_and_then (λ row. Some (x ∷ row)) (slice_get rows j)) (slice_get xs i)

abbrev with_fronts : List Value → List (List Value) → List (List Value)
with_fronts xs rows = flat_map (λ row. map (λ x. x ∷ row) xs) rows

at_row : (xs : List Value) (rows : List (List Value)) (i j k : ℕ) → i < length xs → j < length rows → k ≡ length xs * j + i → slice_get (with_fronts xs rows) k ≡ chosen xs rows i j
at_row xs [] i j k hi hj e = absurd (omega arith)
at_row xs (row ∷ rows) i zero k hi hj e =
    let here : k ≡ i = omega (arith, e) in
    let within : i < length (map (λ x. x ∷ row) xs) = omega (arith, length-map xs (λ x. x ∷ row)) in
    ap (slice_get (with_fronts xs (row ∷ rows))) here
    ∙ get_front (map (λ x. x ∷ row) xs) (with_fronts xs rows) i within
    ∙ slice_get-map (λ x. x ∷ row) xs i
    ∙ then_some (λ x. x ∷ row) (slice_get xs i)
at_row xs (row ∷ rows) i (suc j) k hi hj e =
    let back : k ≡ length (map (λ x. x ∷ row) xs) + (length xs * j + i) = omega (arith, e, length-map xs (λ x. x ∷ row)) in
    get_back (map (λ x. x ∷ row) xs) (with_fronts xs rows) (length xs * j + i) k back ∙ at_row xs rows i j (length xs * j + i) hi (omega arith) refl

positive : (n m before : ℕ) → before < n * m → 0 < n
positive zero m before h = absurd (omega arith)
positive (suc n) m before h = omega arith

pub holds_digits : ProductHoldsDigits
holds_digits [] zero h = refl
holds_digits [] (suc before) h = absurd (omega arith)
holds_digits (xs ∷ lists) before h =
    let n = length xs in
    let rows = combinations lists in
    let count : length (combinations (xs ∷ lists)) ≡ n * length rows = each_row xs rows in
    let whole : before % n + n * (before / n) ≡ before = mod-add-div before n in
    let under : n * (before / n) < n * length rows = omega (arith, h, count, whole) in
    let j : before / n < length rows = lt_of_mul-lt-mul_left n under in
    let some : 0 < n = positive n (length rows) before (omega (arith, h, count)) in
    let i : before % n < n = mod-lt before some in
    at_row xs rows (before % n) (before / n) before i j (omega (arith, whole))
    ∙ ap (λ o. option_and_then (λ x. option_and_then (λ row. Some (x ∷ row)) o) (slice_get xs (before % n))) (holds_digits lists (before / n) j)

-- ---- the item of a zip at a place

is_none : {A B : Type 0} (o : Option A) → ◌≡◌ {A = Option B} (option_and_then (λ x. None) o) None
is_none None = refl
is_none (Some x) = refl

front_at : (xs : List Value) (rows : List (List Value)) (k : ℕ) → slice_get (in_front xs rows) k ≡ chosen xs rows k k
front_at [] rows k = refl
front_at (x ∷ xs) [] k = sym (is_none (slice_get (x ∷ xs) k))
front_at (x ∷ xs) (row ∷ rows) zero = refl
front_at (x ∷ xs) (row ∷ rows) (suc k) = front_at xs rows k

pub zip_holds : ZipHoldsItems
zip_holds [] before h = absurd (omega arith)
zip_holds (xs ∷ []) before h = slice_get-map (λ x. x ∷ []) xs before ∙ then_some (λ x. x ∷ []) (slice_get xs before)
zip_holds (xs ∷ ys ∷ more) before h =
    let within : before < length (side_by_side (ys ∷ more)) = omega (arith, h, front_counts xs (side_by_side (ys ∷ more))) in
    front_at xs (side_by_side (ys ∷ more)) before
    ∙ ap (λ o. option_and_then (λ x. option_and_then (λ row. Some (x ∷ row)) o) (slice_get xs before)) (zip_holds (ys ∷ more) before within)

-- ---- the counts of axes

counted_at : (first step last : ℤ) (none : Bool) → length (if none then [] else range_items first step last) ≡ (if none then 0 else range_count first step last)
counted_at first step last true = refl
counted_at first step last false = length-items_from first step (range_count first step last)

numbers_counted : (first step last : ℤ) → length (numbers first step last) ≡ numbers_count first step last
numbers_counted first step last = counted_at first step last (int_eq step (pos 0))

column_counted : (texts : Option (List (List ℕ))) → length (column_items texts) ≡ column_count texts
column_counted (Some texts) = length-map texts Text
column_counted None = refl

abbrev IsCounted : Axis → Type 0
IsCounted x = (sources : Sources) → length (axis_items x sources) ≡ axis_count x sources

abbrev Such : Type 0
Such = (x : Axis) × IsCounted x

abbrev bare : Such → Axis
bare e = e.0

parts_counted : (parts : List Such) (sources : Sources) → map length (all_items (map axis_items (map bare parts)) sources) ≡ all_counts (map axis_count (map bare parts)) sources
parts_counted [] sources = refl
parts_counted (p ∷ ps) sources = ap₂ (λ n ns. n ∷ ns) (p.1 sources) (parts_counted ps sources)

abbrev ItemsOf : Axis-F Axis → Listing
ItemsOf w = axis_step (map-Axis Axis Listing axis_items w)

abbrev CountOf : Axis-F Axis → Counting
CountOf w = axis_count_step (map-Axis Axis Counting axis_count w)

layer_counted : (y : Axis-F Such) (sources : Sources) → length (ItemsOf (map-Axis Such Axis bare y) sources) ≡ CountOf (map-Axis Such Axis bare y) sources
layer_counted (a.Steps r) sources =
    let first = number_of (value_of r.first sources.names) in
    let step = step_number r.step sources.names in
    let last = number_of (value_of r.last sources.names) in
    length-map (numbers first step last) Int ∙ numbers_counted first step last
layer_counted (a.Col name) sources = column_counted (column_of sources.table name)
layer_counted (a.Zip parts) sources =
    let lists = all_items (map axis_items (map bare parts)) sources in
    length-map (side_by_side lists) Tuple ∙ zip_counts lists ∙ ap least_count (parts_counted parts sources)

pub axes_counted : AxesAreCounted
axes_counted = ind-Axis IsCounted (λ x y is sources.
    let items = ap (λ (f : Listing). length (f sources)) (fold-roll-Axis Listing axis_step x) in
    let count = ap (λ (f : Counting). f sources) (fold-roll-Axis Counting axis_count_step x) in
    items ∙ subst (λ w. length (ItemsOf w sources) ≡ CountOf w sources) is (layer_counted y sources) ∙ sym count)

-- ---- heads

pub all_counted : (axes : List Axis) (sources : Sources) → map length (all_items (map axis_items axes) sources) ≡ all_counts (map axis_count axes) sources
all_counted [] sources = refl
all_counted (x ∷ xs) sources = ap₂ (λ n ns. n ∷ ns) (axes_counted x sources) (all_counted xs sources)

only_counted : (lists : List (List Value)) → length (only_axis lists) ≡ only_count (map length lists)
only_counted [] = refl
only_counted (xs ∷ lists) = refl

head_counted : (product : Bool) (lists : List (List Value)) (counts : List ℕ) → map length lists ≡ counts →
    length (if product then map Tuple (combinations lists) else only_axis lists) ≡ (if product then product_of counts else only_count counts)
head_counted true lists counts e = length-map (combinations lists) Tuple ∙ product_counts lists ∙ ap product_of e
head_counted false lists counts e = only_counted lists ∙ ap only_count e

pub items_counted : ItemsAreCounted
items_counted program table =
    let sources = sources_of program table in
    head_counted program.head.product (all_items (map axis_items program.head.axes) sources) (all_counts (map axis_count program.head.axes) sources) (all_counted program.head.axes sources)
