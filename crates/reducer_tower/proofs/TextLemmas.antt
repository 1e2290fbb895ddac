-- The text of a state that stands for a list is the result text of that list.
use mathlib.Core.Path as path
use Rattle.std.proofs.Common.{◌≡◌, ℕ, List, [], ◌∷◌, ◌++◌, map, Bool, true, false, cond, Option, pos, ℤ, refl, ap, sym, ◌∙◌, subst, append_assoc}
use Rattle.std.specs.Prelude.{All, codes, if◌then◌else◌, ◌||◌, ◌&&◌}
use Rattle.std.specs.List.{list_any, list_all}
use Rattle.std.specs.Map.{keys_of as keys_in_order}
use Rattle.std.specs.Fmt.{signed_decimal}
use Rattle.std.specs.Option.{option_map}
use Rattle.std.specs.Ordering.{nat_cmp}
use Rattle.std.proofs.lemmas.List.Elements.{All-head, All-tail}
use Rattle.std.proofs.lemmas.List.Folds.{list_all-map}
use Rattle.loop_data.specs.declared.value.Value.{Value}
use Rattle.loop_data.specs.declared.tower.Kind.{Kind, map-Kind, ind-Kind, fold-roll-Kind}
use Rattle.loop_data.specs.declared.tower.Kind.TheOpen.{Kind-F, Kind-F as k}
use Rattle.loop_data.specs.OrderLaws.{values_total}
use Rattle.loop_data.specs.ValueOrder.{value_cmp}
use Rattle.loop_data.specs.ValueParts.{as_bool, left_of, right_of}
use Rattle.loop_data.specs.ValueTexts.{separated, value_text}
use Rattle.loop_results.specs.Extremes.{IsFirstExtreme, is_smaller, is_greater, is_smaller_at, is_greater_at}
use Rattle.loop_results.specs.Groups.{keys_in, inputs_under}
use Rattle.loop_results.specs.Orders.{smaller_is_order, greater_is_order}
use Rattle.loop_results.specs.Results.{TowerResult, GroupResults, Folding, number, grouped, both, no_more, group, results_under, result_of, result_step, value_at_place, input_at_key, least_at, greatest_at}
use Rattle.loop_results.specs.ResultTexts.{text_of_result, group_texts, result_text, found_text, found_at_text}
use Rattle.loop_results.proofs.ExtremeLemmas.{first_is_best}
use Rattle.reducer_laws.specs.Ends.{IsAny, IsAll}
use Rattle.reducer_laws.specs.Laws.{at_int_place}
use Rattle.reducer_laws.proofs.ExtremeLemmas.{least_said, greatest_said}
use Rattle.reducer_laws.proofs.KeyLemmas.{same_keys, each_stands}
use Rattle.reducer_tower.specs.declared.state.TowerState.{TowerState, out-TowerState, map-TowerState}
use Rattle.reducer_tower.specs.declared.state.TowerState.TheOpen.{TowerState-F, TowerState-F as s}
use Rattle.reducer_tower.specs.declared.state.TowerState.TheFolds.{fold_out-TowerState}
use Rattle.reducer_tower.specs.Inputs.{at_place, HasPlace}
use Rattle.reducer_tower.specs.Stands.{Standing, Stands, stands_step, sum_in, prod_in, count_in, truth_in, found_in, placed_in, listed_in, grouped_in, both_in, IsFirst, IsLast}
use Rattle.reducer_tower.specs.Texts.{state_text, state_text_step, group_text, list_text}
use Rattle.reducer_tower.specs.Laws.{SaysTheResult}
use Rattle.reducer_tower.proofs.KindLemmas.{stands-roll}

-- ---- a state under a kind
abbrev HasText : Kind → Type 0
HasText kind = (state : TowerState) (inputs : List Value) → Stands kind state inputs → state_text state ≡ text_of_result (result_of kind inputs)

abbrev Such : Type 0
Such = (kind : Kind) × HasText kind

abbrev bare : Such → Kind
bare e = e.0

-- the groups' texts are those of the results of the inputs of each key
texts_of_groups : (e : Such) (groups : List (List ℕ × TowerState)) (xs : List (List ℕ × Value)) → All (λ g. Stands e.0 g.1 (inputs_under g.0 xs)) groups
    → map group_text (map (λ g. (g.0, state_text g.1)) groups) ≡ group_texts (results_under (result_of e.0) (keys_in_order groups) xs)
texts_of_groups e [] xs h = refl
texts_of_groups e (g ∷ groups) xs h =
    let P : List ℕ × TowerState → Type 0 = λ g. Stands e.0 g.1 (inputs_under g.0 xs) in
    let text = e.1 g.1 (inputs_under g.0 xs) (All-head P g groups h) in
    let rest = texts_of_groups e groups xs (All-tail P g groups h) in
    ap (λ t. (g.0 ++ codes ": " ++ t) ∷ map group_text (map (λ g. (g.0, state_text g.1)) groups)) text
    ∙ ap (λ l. (g.0 ++ codes ": " ++ text_of_result (result_of e.0 (inputs_under g.0 xs))) ∷ l) rest

abbrev opened : TowerState-F TowerState → List ℕ
opened l = state_text_step (map-TowerState TowerState (List ℕ) state_text l)

sum_text : (l : TowerState-F TowerState) (xs : List Value) → sum_in l xs → opened l ≡ text_of_result (result_step k.Sum xs)
sum_text (s.Sum total) xs h = ap signed_decimal h.1
sum_text _ xs h = absurd h

prod_text : (l : TowerState-F TowerState) (xs : List Value) → prod_in l xs → opened l ≡ text_of_result (result_step k.Prod xs)
prod_text (s.Prod product) xs h = ap signed_decimal h
prod_text _ xs h = absurd h

count_text : (l : TowerState-F TowerState) (xs : List Value) → count_in l xs → opened l ≡ text_of_result (result_step k.Count xs)
count_text (s.Count n) xs h = ap (λ m. signed_decimal (pos m)) h
count_text _ xs h = absurd h

-- ---- truth values
abbrev truth_text : Bool → List ℕ
truth_text b = if b then codes "true" else codes "false"

list_any-map : {A : Type 0} (f : A → Bool) (xs : List A) → list_any (λ x. x) (map f xs) ≡ list_any f xs
list_any-map f [] = refl
list_any-map f (x ∷ xs) = ap (λ b. f x || b) (list_any-map f xs)

any_text : (l : TowerState-F TowerState) (xs : List Value) → truth_in IsAny l xs → opened l ≡ text_of_result (result_step k.Any xs)
any_text (s.Truth b) xs h = ap truth_text (h ∙ list_any-map as_bool xs)
any_text _ xs h = absurd h

all_text : (l : TowerState-F TowerState) (xs : List Value) → truth_in IsAll l xs → opened l ≡ text_of_result (result_step k.All xs)
all_text (s.Truth b) xs h = ap truth_text (h ∙ list_all-map (λ x. x) as_bool xs)
all_text _ xs h = absurd h

-- ---- inputs that were found
least_text : (l : TowerState-F TowerState) (xs : List Value) → found_in (IsFirstExtreme (is_smaller value_cmp)) l xs → opened l ≡ text_of_result (result_step k.Least xs)
least_text (s.Found x) xs h = ap found_text (first_is_best (smaller_is_order values_total) x xs h)
least_text _ xs h = absurd h

greatest_text : (l : TowerState-F TowerState) (xs : List Value) → found_in (IsFirstExtreme (is_greater value_cmp)) l xs → opened l ≡ text_of_result (result_step k.Greatest xs)
greatest_text (s.Found x) xs h = ap found_text (first_is_best (greater_is_order values_total) x xs h)
greatest_text _ xs h = absurd h

first_text : (l : TowerState-F TowerState) (xs : List Value) → found_in IsFirst l xs → opened l ≡ text_of_result (result_step k.First xs)
first_text (s.Found x) xs h = ap found_text h
first_text _ xs h = absurd h

last_text : (l : TowerState-F TowerState) (xs : List Value) → found_in IsLast l xs → opened l ≡ text_of_result (result_step k.Last xs)
last_text (s.Found x) xs h = ap found_text h
last_text _ xs h = absurd h

-- places that are no negative numbers are the integers of the loop language
places : (xs : List Value) → All HasPlace xs → map at_int_place (map at_place xs) ≡ map value_at_place xs
places [] h = refl
places (x ∷ xs) h =
    ap (λ p. (left_of x, p) ∷ map at_int_place (map at_place xs)) (All-head HasPlace x xs h)
    ∙ ap (λ l. value_at_place x ∷ l) (places xs (All-tail HasPlace x xs h))

least_at_text : (l : TowerState-F TowerState) (xs : List Value) → placed_in (IsFirstExtreme (is_smaller_at value_cmp nat_cmp)) l xs → opened l ≡ text_of_result (result_step k.LeastAt xs)
least_at_text (s.FoundAt x) xs h =
    ap found_at_text (sym (least_said value_cmp values_total x (map at_place xs) h.1) ∙ ap least_at (places xs h.0))
least_at_text _ xs h = absurd h

greatest_at_text : (l : TowerState-F TowerState) (xs : List Value) → placed_in (IsFirstExtreme (is_greater_at value_cmp nat_cmp)) l xs → opened l ≡ text_of_result (result_step k.GreatestAt xs)
greatest_at_text (s.FoundAt x) xs h =
    ap found_at_text (sym (greatest_said value_cmp values_total x (map at_place xs) h.1) ∙ ap greatest_at (places xs h.0))
greatest_at_text _ xs h = absurd h

listed_text : (l : TowerState-F TowerState) (xs : List Value) → listed_in l xs → opened l ≡ text_of_result (result_step k.Listed xs)
listed_text (s.Listed ys) xs h = ap list_text h
listed_text _ xs h = absurd h

grouped_text : (e : Such) (l : TowerState-F TowerState) (xs : List Value) → grouped_in (Stands e.0) l xs → opened l ≡ text_of_result (result_step (k.Grouped (result_of e.0)) xs)
grouped_text e (s.Grouped groups) xs h =
    let inputs = map input_at_key xs in
    let keys = same_keys (Stands e.0) groups inputs h in
    let texts = texts_of_groups e groups inputs (each_stands (Stands e.0) groups inputs h) in
    ap (λ l. codes "{" ++ separated l ++ codes "}") (texts ∙ ap (λ ks. group_texts (results_under (result_of e.0) ks inputs)) keys)
grouped_text e _ xs h = absurd h

in_one : (a b : List ℕ) → codes "(" ++ a ++ codes ", " ++ b ++ codes ")" ≡ codes "(" ++ separated (a ∷ b ∷ []) ++ codes ")"
in_one a b = simp append_assoc refl

both_text : (e f : Such) (l : TowerState-F TowerState) (xs : List Value) → both_in (Stands e.0) (Stands f.0) l xs → opened l ≡ text_of_result (result_step (k.Both (result_of e.0) (result_of f.0)) xs)
both_text e f (s.Both a b) xs h =
    in_one (state_text a) (state_text b)
    ∙ ap (λ t. codes "(" ++ separated (t ∷ state_text b ∷ []) ++ codes ")") (e.1 a (map left_of xs) h.0)
    ∙ ap (λ t. codes "(" ++ separated (text_of_result (result_of e.0 (map left_of xs)) ∷ t ∷ []) ++ codes ")") (f.1 b (map right_of xs) h.1)
both_text e f _ xs h = absurd h

layer_text : (y : Kind-F Such) (state : TowerState) (xs : List Value) → stands_step (λ e. Stands (bare e)) y state xs
    → opened (out-TowerState state) ≡ text_of_result (result_step (map-Kind Kind Folding result_of (map-Kind Such Kind bare y)) xs)
layer_text k.Sum state xs h = sum_text (out-TowerState state) xs h
layer_text k.Prod state xs h = prod_text (out-TowerState state) xs h
layer_text k.Count state xs h = count_text (out-TowerState state) xs h
layer_text k.Least state xs h = least_text (out-TowerState state) xs h
layer_text k.Greatest state xs h = greatest_text (out-TowerState state) xs h
layer_text k.LeastAt state xs h = least_at_text (out-TowerState state) xs h
layer_text k.GreatestAt state xs h = greatest_at_text (out-TowerState state) xs h
layer_text k.First state xs h = first_text (out-TowerState state) xs h
layer_text k.Last state xs h = last_text (out-TowerState state) xs h
layer_text k.Any state xs h = any_text (out-TowerState state) xs h
layer_text k.All state xs h = all_text (out-TowerState state) xs h
layer_text k.Listed state xs h = listed_text (out-TowerState state) xs h
layer_text (k.Grouped e) state xs h = grouped_text e (out-TowerState state) xs h
layer_text (k.Both e f) state xs h = both_text e f (out-TowerState state) xs h

-- a layer over kinds with their proofs is the layer over the kinds
plain : (y : Kind-F Such) (state : TowerState) (xs : List Value) → stands_step Stands (map-Kind Such Kind bare y) state xs → stands_step (λ e. Stands (bare e)) y state xs
plain k.Sum state xs h = h
plain k.Prod state xs h = h
plain k.Count state xs h = h
plain k.Least state xs h = h
plain k.Greatest state xs h = h
plain k.LeastAt state xs h = h
plain k.GreatestAt state xs h = h
plain k.First state xs h = h
plain k.Last state xs h = h
plain k.Any state xs h = h
plain k.All state xs h = h
plain k.Listed state xs h = h
plain (k.Grouped e) state xs h = h
plain (k.Both e f) state xs h = h

abbrev LayerHas : Kind-F Kind → Type 0
LayerHas w = (state : TowerState) (xs : List Value) → stands_step Stands w state xs → opened (out-TowerState state) ≡ text_of_result (result_step (map-Kind Kind Folding result_of w) xs)

has_text : (kind : Kind) → HasText kind
has_text = ind-Kind HasText (λ x y is state xs h.
    let layer : LayerHas x = subst LayerHas is (λ state xs h. layer_text y state xs (plain y state xs h)) in
    let stood = path.subst (λ (S : Standing). S state xs) (stands-roll x) h in
    fold_out-TowerState (List ℕ) state_text_step state ∙ layer state xs stood
    ∙ sym (ap (λ (f : Folding). text_of_result (f xs)) (fold-roll-Kind Folding result_step x)))

pub says_the_result : SaysTheResult
says_the_result = has_text
