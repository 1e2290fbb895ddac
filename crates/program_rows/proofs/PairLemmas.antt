-- Pairs as inputs of a row's towers: those of two lists one after the other, how many they are, and that each fits.
use Rattle.std.proofs.Common.{◌≡◌, ℕ, ◌<◌, ◌≤◌, true, List, [], ◌∷◌, ◌++◌, length, Option, Some, None, sym, refl, ap, subst, ◌∙◌, append_assoc, append-nil, length-append, arith}
use Rattle.std.proofs.lemmas.Bool.{and_parts}
use Rattle.std.proofs.lemmas.List.Folds.{list_all-append}
use Rattle.loop_data.specs.declared.value.Value.{Value}
use Rattle.loop_meaning.specs.declared.steps.Pair.{Pair}
use Rattle.reducer_laws.specs.Standing.{MayTake}
use Rattle.reducer_tower.specs.declared.named.Named.{Named}
use Rattle.reducer_tower.specs.declared.row.Emitted.{Emitted}
use Rattle.reducer_tower.specs.declared.row.RowState.{RowState}
use Rattle.reducer_tower.specs.Rows.{RowStands, Takes, number_of}
use Rattle.program_rows.specs.Laws.{NoMoreInputsThanPairs, PairsFitTogether, PairsFollowEachOther}
use Rattle.program_rows.specs.Pairs.{HaveRoom, TakeBehind, fits_named, fits_number, input_for, numbered, pair_fits, pairs_fit}
use Rattle.program_rows.proofs.RowLemmas.{tower_at}

-- ---- the inputs of two lists of pairs

-- one after the other
pub numbered-append : PairsFollowEachOther
numbered-append row [] ys = refl
numbered-append row (x ∷ xs) ys =
    let first = input_for (number_of x.name row) x.input in
    ap (λ zs. first ++ zs) (numbered-append row xs ys) ∙ sym (append_assoc first (numbered row xs) (numbered row ys))

-- one more pair
pub numbered-push : (row : List Named) (xs : List Pair) (x : Pair) →
    numbered row (xs ++ x ∷ []) ≡ numbered row xs ++ input_for (number_of x.name row) x.input
numbered-push row xs x =
    numbered-append row xs (x ∷ []) ∙ ap (λ zs. numbered row xs ++ zs) (append-nil (input_for (number_of x.name row) x.input))

-- at most one
one_input : (o : Option ℕ) (v : Value) → length (input_for o v) ≤ 1
one_input None v = omega arith
one_input (Some i) v = omega arith

-- at most one a pair
pub numbered_few : NoMoreInputsThanPairs
numbered_few row [] = omega arith
numbered_few row (x ∷ xs) =
    let first = input_for (number_of x.name row) x.input in
    omega (arith, one_input (number_of x.name row) x.input, numbered_few row xs, length-append first (numbered row xs))

-- ---- pairs that fit

-- the pairs of two lists fit where those of each do
pub fit_together : PairsFitTogether
fit_together row xs ys = list_all-append (pair_fits row) xs ys

-- where the pairs of two lists fit, those of each do
pub fit_parts : (row : List Named) (xs ys : List Pair) → pairs_fit row (xs ++ ys) ≡ true → (pairs_fit row xs ≡ true) × (pairs_fit row ys ≡ true)
fit_parts row xs ys e = and_parts (pairs_fit row xs) (pairs_fit row ys) (sym (fit_together row xs ys) ∙ e)

-- the row takes a value that fits the tower of its name
pub takes_it : (row : List Named) (name : List ℕ) (i : ℕ) (value : Value) → number_of name row ≡ Some i →
    fits_number row (number_of name row) value ≡ true → Takes row (record { tower = i; value = value })
takes_it row name i value e fit =
    let (named, at) = tower_at row name i e in
    let fits : fits_number row (Some i) value ≡ true = subst (λ o. fits_number row o value ≡ true) e fit in
    let fits_it = subst (λ o. fits_named o value ≡ true) at fits in
    (named, at, fits_it)

-- ---- states

-- states that have room for one more input may take one
pub room_for_one : (row : List Named) (state : RowState) → HaveRoom row state 1 → MayTake (λ (s : RowState). RowStands row s.states.items) state
room_for_one row state (inputs, stand, few) = (inputs, stand, omega (arith, few))

-- nothing behind
pub take_none : (row : List Named) (before after : RowState) → after ≡ before → TakeBehind row before after []
take_none row before after e =
    λ earlier stand. subst (λ (s : RowState). RowStands row s.states.items (earlier ++ [])) (sym e) (subst (λ xs. RowStands row before.states.items xs) (sym (append-nil earlier)) stand)

-- one list of inputs behind another
pub take_both : (row : List Named) (before between after : RowState) (xs ys zs : List Emitted) → TakeBehind row before between xs →
    TakeBehind row between after ys → zs ≡ xs ++ ys → TakeBehind row before after zs
take_both row before between after xs ys zs first last e =
    λ earlier stand.
    subst (λ all. RowStands row after.states.items all) (append_assoc earlier xs ys ∙ ap (λ all. earlier ++ all) (sym e)) (last (earlier ++ xs) (first earlier stand))

-- room for these pairs, some of which are folded in, is room for one more of them
pub room_left : (row : List Named) (before now : RowState) (all done : List Pair) → HaveRoom row before (length all) →
    TakeBehind row before now (numbered row done) → length done < length all → HaveRoom row now 1
room_left row before now all done (inputs, stand, few) taken less =
    (inputs ++ numbered row done, taken inputs stand, omega (arith, few, less, numbered_few row done, length-append inputs (numbered row done)))
