-- Rows of items: lists side by side end with the shorter.
use Rattle.std.proofs.Common.{◌≡◌, ℕ, ◌+◌, ◌-◌, ◌<◌, List, [], ◌∷◌, ◌++◌, length, map, take, drop, get_or, suc, append_assoc, Some, refl, ap, sym, ◌∙◌, add-one, arith}
use Rattle.std.specs.Prelude.{flat_map, slice_get, ℤ}
use Rattle.std.proofs.Math.Seq.{take-suc, drop-cons}
use Rattle.std.proofs.lemmas.List.{map-append}
use Rattle.number_ranges.specs.Ranges.{items_from, range_item}
use Rattle.number_ranges.proofs.Items.{items_from-add, items_from-one}
use Rattle.std.proofs.lemmas.Option.{slice_get_within, get_or_from_slice_get}
use Rattle.loop_data.specs.declared.value.Value.{Value}
use Rattle.loop_data.specs.declared.value.Value.TheVariants.{Int, Text}
use Rattle.loop_meaning.specs.Items.{in_front}

pub no_values : (xs : List Value) (rows : List (List Value)) → length xs ≡ 0 → in_front xs rows ≡ []
no_values [] rows e = refl
no_values (x ∷ xs) rows e = absurd (omega arith)

pub no_rows : (xs : List Value) (rows : List (List Value)) → length rows ≡ 0 → in_front xs rows ≡ []
no_rows [] rows e = refl
no_rows (x ∷ xs) [] e = refl
no_rows (x ∷ xs) (row ∷ rows) e = absurd (omega arith)

-- one more text of a column
pub one_text : (texts : List (List ℕ)) (k : ℕ) (t : List ℕ) (items new : List Value) → slice_get texts (k + 1 - 1) ≡ Some t → items ≡ map Text (take k texts) → new ≡ items ++ Text t ∷ [] →
    new ≡ map Text (take (k + 1) texts)
one_text texts k t items new is so now =
    let same : k + 1 - 1 ≡ k = omega arith in
    let here : slice_get texts k ≡ Some t = ap (slice_get texts) (sym same) ∙ is in
    let within : k < length texts = slice_get_within texts k t here in
    now
    ∙ ap (λ l. l ++ Text t ∷ []) so
    ∙ sym (map-append Text (take k texts) (t ∷ []))
    ∙ ap (map Text) (ap (λ x. take k texts ++ x ∷ []) (sym (get_or_from_slice_get texts k t t here)) ∙ sym (take-suc texts k t within) ∙ ap (λ n. take n texts) (sym (add-one k)))

-- one more number of a range
pub one_number : (f s n : ℤ) (k : ℕ) (items new : List Value) → items ≡ map Int (items_from f s k) → n ≡ range_item f s k → new ≡ items ++ Int n ∷ [] → new ≡ map Int (items_from f s (k + 1))
one_number f s n k items new so is now =
    now
    ∙ ap (λ l. l ++ Int n ∷ []) so
    ∙ ap (λ m. map Int (items_from f s k) ++ Int m ∷ []) is
    ∙ sym (map-append Int (items_from f s k) (range_item f s k ∷ []))
    ∙ sym (ap (map Int) (items_from-add f s k 1 ∙ ap (λ xs. items_from f s k ++ xs) (items_from-one (range_item f s k) s)))

flat_map-cons : (f : List Value → List (List Value)) (r : List Value) (rs : List (List Value)) → flat_map f (r ∷ rs) ≡ f r ++ flat_map f rs
flat_map-cons f r rs = refl

-- the rows that have one of these values in front of one more row
pub one_row : (xs : List Value) (rows : List (List Value)) (i : ℕ) (row : List Value) (longer new : List (List Value)) → i < length rows → row ≡ get_or rows i row → new ≡ longer ++ map (λ x. x ∷ row) xs →
    longer ++ flat_map (λ r. map (λ x. x ∷ r) xs) (drop i rows) ≡ flat_map (λ r. map (λ x. x ∷ r) xs) rows →
    new ++ flat_map (λ r. map (λ x. x ∷ r) xs) (drop (i + 1) rows) ≡ flat_map (λ r. map (λ x. x ∷ r) xs) rows
one_row xs rows i row longer new within is now so =
    let f : List Value → List (List Value) = λ r. map (λ x. x ∷ r) xs in
    let next : drop i rows ≡ row ∷ drop (i + 1) rows = drop-cons rows i row within ∙ ap (λ r. r ∷ drop (suc i) rows) (sym is) ∙ ap (λ j. row ∷ drop j rows) (sym (add-one i)) in
    ap (λ l. l ++ flat_map f (drop (i + 1) rows)) now
    ∙ append_assoc longer (f row) (flat_map f (drop (i + 1) rows))
    ∙ ap (λ l. longer ++ l) (sym (flat_map-cons f row (drop (i + 1) rows)))
    ∙ ap (λ rs. longer ++ flat_map f rs) (sym next)
    ∙ so
