-- The inputs of a tower of a row: its start value, and what was emitted under its name.
use Rattle.std.proofs.Common.{◌≡◌, ℕ, Bool, true, false, cond, Option, Some, None, List, [], ◌∷◌, ◌++◌, map, filter, refl, ap, ap₂, sym, ◌∙◌, eq-eqb}
use Rattle.std.specs.Prelude.{◌==◌, slice_get}
use Rattle.std.specs.Str.{bytes_eq}
use Rattle.loop_data.specs.declared.value.Value.{Value}
use Rattle.loop_meaning.specs.declared.steps.Pair.{Pair}
use Rattle.loop_meaning.specs.Reducers.{emitted_under, or_none, start_of}
use Rattle.reducer_tower.specs.declared.named.Named.{Named}
use Rattle.reducer_tower.specs.Rows.{inputs_of, number_of, started_by}
use Rattle.reducer_tower.proofs.InputLemmas.{apart, inputs_of-append, one_of, starts_come_first}
use Rattle.program_rows.specs.Laws.{RowHasInputs}
use Rattle.program_rows.specs.Pairs.{input_for, numbered}
use Rattle.program_rows.specs.Rows.{row_of}
use Rattle.program_rows.proofs.RowLemmas.{first_at, first_lines_kept, found_passes, itself, same, tower_at}

-- a start value, where there is one, as a list
start_listed : (start : Option Value) → started_by start ≡ or_none start
start_listed None = refl
start_listed (Some v) = refl

-- ---- pairs

abbrev under : List ℕ → List Pair → List Pair
under name pairs = filter (λ (x : Pair). bytes_eq x.name name) pairs

-- the pair of the tower's name is its input, and no other
module _ (row : List Named) (name : List ℕ) (i : ℕ) (named : Named) (e : number_of name row ≡ Some i) (at : slice_get row i ≡ Some named) where
  one_input : (pair : Pair) (b : Bool) → bytes_eq pair.name name ≡ b → inputs_of i (input_for (number_of pair.name row) pair.input) ≡ cond b (pair.input ∷ []) []
  one_input pair true is =
      let here : number_of pair.name row ≡ Some i = ap (λ n. number_of n row) (same pair.name name is) ∙ e in
      ap (λ o. inputs_of i (input_for o pair.input)) here ∙ one_of i (record { tower = i; value = pair.input }) true (eq-eqb i i refl)
  one_input pair false is = other (number_of pair.name row) refl
    where
      isnt : (j : ℕ) → number_of pair.name row ≡ Some j → j ≡ i → ⊥
      isnt j f g =
          let there : slice_get row j ≡ Some named = ap (slice_get row) g ∙ at in
          let mine = found_passes (λ (n : Named). bytes_eq n.name name) row named (first_at row name i named e at) in
          let its = found_passes (λ (n : Named). bytes_eq n.name pair.name) row named (first_at row pair.name j named f there) in
          let one_name : pair.name ≡ name = sym (same named.name pair.name its) ∙ same named.name name mine in
          let both : true ≡ false = sym (itself name) ∙ ap (λ n. bytes_eq n name) (sym one_name) ∙ is in
          absurd (cc)

      other : (o : Option ℕ) → number_of pair.name row ≡ o → inputs_of i (input_for o pair.input) ≡ []
      other None f = refl
      other (Some j) f = one_of i (record { tower = j; value = pair.input }) false (apart j i (j == i) refl (isnt j f))

  -- the pairs of the tower's name, in order, are its inputs
  numbered_under : (pairs : List Pair) → inputs_of i (numbered row pairs) ≡ emitted_under name pairs
  numbered_under [] = refl
  numbered_under (pair ∷ pairs) =
      inputs_of-append i (input_for (number_of pair.name row) pair.input) (numbered row pairs)
      ∙ ap₂ (λ xs ys. xs ++ ys) (one_input pair (bytes_eq pair.name name) refl) (numbered_under pairs)
      ∙ put (bytes_eq pair.name name)
    where
      put : (b : Bool) → cond b (pair.input ∷ []) [] ++ emitted_under name pairs ≡ map (λ (x : Pair). x.input) (cond b (pair ∷ under name pairs) (under name pairs))
      put true = refl
      put false = refl

pub inputs_in_row : RowHasInputs
inputs_in_row program pairs name i e =
    let row = row_of program in
    let there = tower_at row name i e in
    let start : start_of program name ≡ there.0.start = (first_lines_kept program name i there.0 e there.1).1 in
    starts_come_first row i there.0 (numbered row pairs) there.1
    ∙ ap₂ (λ xs ys. xs ++ ys) (start_listed there.0.start ∙ ap or_none (sym start)) (numbered_under row name i there.0 e there.1 pairs)
