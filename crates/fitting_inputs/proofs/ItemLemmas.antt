-- Each item of a head fits the kind of the head's items.
use Rattle.std.proofs.Common.{◌≡◌, Bool, true, false, ℕ, Option, Some, None, List, [], ◌∷◌, ◌++◌, map, refl, ap, sym, subst, ◌∙◌}
use Rattle.std.specs.Prelude.{◌&&◌, if◌then◌else◌, ℤ, flat_map}
use Rattle.std.specs.List.{list_all}
use Rattle.loop_data.specs.declared.value.Value.{Value}
use Rattle.loop_data.specs.declared.value.Value.TheVariants.{Int, Text, Tuple}
use Rattle.loop_data.specs.declared.value.ValueKind.{ValueKind}
use Rattle.loop_data.specs.declared.value.ValueKind.TheVariants as kind
use Rattle.loop_data.specs.declared.head.Axis.{Axis, fold-roll-Axis, ind-Axis, map-Axis, roll-Axis}
use Rattle.loop_data.specs.declared.head.Axis.TheOpen.{Axis-F, Axis-F as a}
use Rattle.loop_values.specs.Fits.{all_fit, fits}
use Rattle.loop_values.specs.Values.{value_of}
use Rattle.loop_values.proofs.SoundLemmas.{fits-Int, fits-Text, fits-Tuple}
use Rattle.column_input.specs.Table.{column_of}
use Rattle.legality_rules.specs.Scopes.{axis_kind, axis_step as axis_kind_step, item_kind, only_kind}
use Rattle.loop_meaning.specs.Items.{Listing, Sources, all_items, axis_items, axis_step, column_items, combinations, in_front, number_of, numbers, only_axis, side_by_side, step_number}
use Rattle.fitting_inputs.specs.Laws.{ItemsFit}

-- ---- lists of values, and rows of them

-- each value of the list fits the kind
abbrev AreFit : ValueKind → List Value → Type 0
AreFit x values = list_all (fits x) values ≡ true

-- each row has a value of each of the kinds, one by one
abbrev RowsFit : List ValueKind → List (List Value) → Type 0
RowsFit kinds rows = list_all (all_fit (map fits kinds)) rows ≡ true

-- the lists have values of these kinds, one by one
abbrev ListsFit : List ValueKind → List (List Value) → Type 0
ListsFit [] [] = Unit {0}
ListsFit (x ∷ kinds) (xs ∷ lists) = AreFit x xs × ListsFit kinds lists
ListsFit _ _ = ⊥

both : (a b : Bool) → (a && b) ≡ true → (a ≡ true) × (b ≡ true)
both true b e = (refl, e)
both false b e = absurd (cc)

and_both : (a b : Bool) → a ≡ true → b ≡ true → (a && b) ≡ true
and_both true b e h = h
and_both false b e h = e

joined : {A : Type 0} (p : A → Bool) (xs ys : List A) → list_all p xs ≡ true → list_all p ys ≡ true → list_all p (xs ++ ys) ≡ true
joined p [] ys e h = h
joined p (x ∷ xs) ys e h =
    let parts = both (p x) (list_all p xs) e in
    and_both (p x) (list_all p (xs ++ ys)) parts.0 (joined p xs ys parts.1 h)

-- rows as tuples
tuples_fit : (kinds : List ValueKind) (rows : List (List Value)) → RowsFit kinds rows → AreFit (kind.Tuple kinds) (map Tuple rows)
tuples_fit kinds [] e = refl
tuples_fit kinds (row ∷ rows) e =
    let parts = both (all_fit (map fits kinds) row) (list_all (all_fit (map fits kinds)) rows) e in
    and_both (fits (kind.Tuple kinds) (Tuple row)) (list_all (fits (kind.Tuple kinds)) (map Tuple rows)) (fits-Tuple kinds row ∙ parts.0) (tuples_fit kinds rows parts.1)

-- ---- zips and products

single_fit : (x : ValueKind) (xs : List Value) → AreFit x xs → RowsFit (x ∷ []) (map (λ v. v ∷ []) xs)
single_fit x [] e = refl
single_fit x (v ∷ xs) e =
    let parts = both (fits x v) (list_all (fits x) xs) e in
    and_both (fits x v && true) (list_all (all_fit (fits x ∷ [])) (map (λ v. v ∷ []) xs)) (and_both (fits x v) true parts.0 refl) (single_fit x xs parts.1)

front_fit : (x : ValueKind) (kinds : List ValueKind) (xs : List Value) (rows : List (List Value)) → AreFit x xs → RowsFit kinds rows → RowsFit (x ∷ kinds) (in_front xs rows)
front_fit x kinds [] rows e h = refl
front_fit x kinds (v ∷ xs) [] e h = refl
front_fit x kinds (v ∷ xs) (row ∷ rows) e h =
    let p = both (fits x v) (list_all (fits x) xs) e in
    let q = both (all_fit (map fits kinds) row) (list_all (all_fit (map fits kinds)) rows) h in
    and_both (fits x v && all_fit (map fits kinds) row) (list_all (all_fit (map fits (x ∷ kinds))) (in_front xs rows))
    (and_both (fits x v) (all_fit (map fits kinds) row) p.0 q.0) (front_fit x kinds xs rows p.1 q.1)

-- lists side by side
zip_fits : (kinds : List ValueKind) (lists : List (List Value)) → ListsFit kinds lists → RowsFit kinds (side_by_side lists)
zip_fits [] [] h = refl
zip_fits [] (xs ∷ lists) h = absurd h
zip_fits (x ∷ kinds) [] h = absurd h
zip_fits (x ∷ []) (xs ∷ []) h = single_fit x xs h.0
zip_fits (x ∷ []) (xs ∷ ys ∷ more) h = absurd h.1
zip_fits (x ∷ y ∷ kinds) (xs ∷ []) h = absurd h.1
zip_fits (x ∷ y ∷ kinds) (xs ∷ ys ∷ more) h = front_fit x (y ∷ kinds) xs (side_by_side (ys ∷ more)) h.0 (zip_fits (y ∷ kinds) (ys ∷ more) h.1)

with_fit : (x : ValueKind) (kinds : List ValueKind) (xs : List Value) (row : List Value) → AreFit x xs → all_fit (map fits kinds) row ≡ true → RowsFit (x ∷ kinds) (map (λ v. v ∷ row) xs)
with_fit x kinds [] row e h = refl
with_fit x kinds (v ∷ xs) row e h =
    let p = both (fits x v) (list_all (fits x) xs) e in
    and_both (fits x v && all_fit (map fits kinds) row) (list_all (all_fit (map fits (x ∷ kinds))) (map (λ v. v ∷ row) xs))
    (and_both (fits x v) (all_fit (map fits kinds) row) p.0 h) (with_fit x kinds xs row p.1 h)

fronts_fit : (x : ValueKind) (kinds : List ValueKind) (xs : List Value) (rows : List (List Value)) → AreFit x xs → RowsFit kinds rows → RowsFit (x ∷ kinds) (flat_map (λ row. map (λ v. v ∷ row) xs) rows)
fronts_fit x kinds xs [] e h = refl
fronts_fit x kinds xs (row ∷ rows) e h =
    let q = both (all_fit (map fits kinds) row) (list_all (all_fit (map fits kinds)) rows) h in
    joined (all_fit (map fits (x ∷ kinds))) (map (λ v. v ∷ row) xs) (flat_map (λ row. map (λ v. v ∷ row) xs) rows) (with_fit x kinds xs row e q.0) (fronts_fit x kinds xs rows e q.1)

-- choices of a value from each list
product_fits : (kinds : List ValueKind) (lists : List (List Value)) → ListsFit kinds lists → RowsFit kinds (combinations lists)
product_fits [] [] h = refl
product_fits [] (xs ∷ lists) h = absurd h
product_fits (x ∷ kinds) [] h = absurd h
product_fits (x ∷ kinds) (xs ∷ lists) h = fronts_fit x kinds xs (combinations lists) h.0 (product_fits kinds lists h.1)

-- ---- axes

numbers_fit : (ns : List ℤ) → AreFit kind.Int (map Int ns)
numbers_fit [] = refl
numbers_fit (n ∷ ns) = and_both (fits kind.Int (Int n)) (list_all (fits kind.Int) (map Int ns)) (fits-Int n) (numbers_fit ns)

texts_fit : (ts : List (List ℕ)) → AreFit kind.Text (map Text ts)
texts_fit [] = refl
texts_fit (t ∷ ts) = and_both (fits kind.Text (Text t)) (list_all (fits kind.Text) (map Text ts)) (fits-Text t) (texts_fit ts)

column_fits : (texts : Option (List (List ℕ))) → AreFit kind.Text (column_items texts)
column_fits (Some texts) = texts_fit texts
column_fits None = refl

abbrev IsFit : Axis → Type 0
IsFit x = (sources : Sources) → AreFit (axis_kind x) (axis_items x sources)

abbrev Such : Type 0
Such = (x : Axis) × IsFit x

abbrev bare : Such → Axis
bare e = e.0

parts_fit : (parts : List Such) (sources : Sources) → ListsFit (map axis_kind (map bare parts)) (all_items (map axis_items (map bare parts)) sources)
parts_fit [] sources = tt
parts_fit (p ∷ ps) sources = (p.1 sources, parts_fit ps sources)

abbrev ItemsOf : Axis-F Axis → Listing
ItemsOf w = axis_step (map-Axis Axis Listing axis_items w)

abbrev KindOf : Axis-F Axis → ValueKind
KindOf w = axis_kind_step (map-Axis Axis ValueKind axis_kind w)

layer_fits : (y : Axis-F Such) (sources : Sources) → AreFit (KindOf (map-Axis Such Axis bare y)) (ItemsOf (map-Axis Such Axis bare y) sources)
layer_fits (a.Steps r) sources =
    numbers_fit (numbers (number_of (value_of r.first sources.names)) (step_number r.step sources.names) (number_of (value_of r.last sources.names)))
layer_fits (a.Col name) sources = column_fits (column_of sources.table name)
layer_fits (a.Zip parts) sources =
    let kinds = map axis_kind (map bare parts) in
    let lists = all_items (map axis_items (map bare parts)) sources in
    tuples_fit kinds (side_by_side lists) (zip_fits kinds lists (parts_fit parts sources))

-- each item of an axis fits the axis's kind
axis_fits : (x : Axis) → IsFit x
axis_fits = ind-Axis IsFit (λ x y is sources.
    let items = ap (λ (f : Listing). f sources) (fold-roll-Axis Listing axis_step x) in
    let layer = subst (λ w. AreFit (KindOf w) (ItemsOf w sources)) is (layer_fits y sources) in
    subst (λ z. AreFit z (axis_items (roll-Axis x) sources)) (sym (fold-roll-Axis ValueKind axis_kind_step x)) (subst (AreFit (KindOf x)) (sym items) layer))

-- ---- heads

all_axes_fit : (axes : List Axis) (sources : Sources) → ListsFit (map axis_kind axes) (all_items (map axis_items axes) sources)
all_axes_fit [] sources = tt
all_axes_fit (x ∷ xs) sources = (axis_fits x sources, all_axes_fit xs sources)

some_same : (x y : ValueKind) → ◌≡◌ {A = Option ValueKind} (Some x) (Some y) → x ≡ y
some_same x y e = cc

only_fits : (kinds : List ValueKind) (lists : List (List Value)) (x : ValueKind) → ListsFit kinds lists → only_kind kinds ≡ Some x → AreFit x (only_axis lists)
only_fits [] [] x h e = refl
only_fits [] (xs ∷ lists) x h e = absurd h
only_fits (y ∷ kinds) [] x h e = absurd h
only_fits (y ∷ kinds) (xs ∷ lists) x h e = subst (λ z. AreFit z xs) (some_same y x e) h.0

head_fits : (product : Bool) (axes : List Axis) (lists : List (List Value)) (x : ValueKind) → ListsFit (map axis_kind axes) lists → item_kind product axes ≡ Some x →
    AreFit x (if product then map Tuple (combinations lists) else only_axis lists)
head_fits true axes lists x h e =
    let kinds = map axis_kind axes in
    subst (λ z. AreFit z (map Tuple (combinations lists))) (some_same (kind.Tuple kinds) x e) (tuples_fit kinds (combinations lists) (product_fits kinds lists h))
head_fits false axes lists x h e = only_fits (map axis_kind axes) lists x h e

pub items_fit : ItemsFit
items_fit head sources x e = head_fits head.product head.axes (all_items (map axis_items head.axes) sources) x (all_axes_fit head.axes sources) e
