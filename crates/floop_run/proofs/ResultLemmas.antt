-- From a row and its states to the results of a program.
use Rattle.std.proofs.Common.{◌≡◌, ℕ, List, [], ◌++◌, Option, Some, None, Result, Ok, Err, refl, sym, ap, subst, ◌∙◌}
use Rattle.std.specs.Prelude.{◌↔◌}
use Rattle.loop_data.specs.declared.value.Value.{Value}
use Rattle.loop_results.specs.ResultTexts.{result_text}
use Rattle.loop_grammar.specs.declared.tree.ProgramTree.{ProgramTree}
use Rattle.loop_meaning.specs.declared.steps.Pair.{Pair}
use Rattle.loop_meaning.specs.Reducers.{inputs_of}
use Rattle.reducer_tower.specs.declared.named.Named.{Named}
use Rattle.reducer_tower.specs.declared.state.TowerState.{TowerState}
use Rattle.reducer_tower.specs.declared.row.RowStop.{RowStop}
use Rattle.reducer_tower.specs.declared.row.RowStop.TheVariants.{NoSuchName}
use Rattle.reducer_tower.specs.Rows.{RowStands, IsTextOf, number_of, starts_of}
use Rattle.fitting_inputs.specs.ReduceLines.{reducer_kind}
use Rattle.program_rows.specs.Pairs.{numbered}
use Rattle.program_rows.specs.Rows.{row_of}
use Rattle.program_rows.proofs.InputLemmas.{inputs_in_row}
use Rattle.program_rows.proofs.RowLemmas.{first_lines_kept, others_have_none, tower_at}
use Rattle.floop_run.specs.Results.{text_of}

-- whichever inputs the states of the program's row stand for, what a row's text says is the text of the program's reducer
module _ (program : ProgramTree) (states : List TowerState) (emitted : List Pair) (name text : List ℕ) where
  text_at : IsTextOf (row_of program) states name text → RowStands (row_of program) states (starts_of (row_of program) ++ numbered (row_of program) emitted) →
      (i : ℕ) → number_of name (row_of program) ≡ Some i → text ≡ text_of (reducer_kind program name) (inputs_of program emitted name)
  text_at is stands i e =
      let there = tower_at (row_of program) name i e in
      let kind : reducer_kind program name ≡ Some there.0.tower.kind = (first_lines_kept program name i there.0 e there.1).0 in
      is i there.0 (starts_of (row_of program) ++ numbered (row_of program) emitted) e there.1 stands
      ∙ ap (result_text there.0.tower.kind) (inputs_in_row program emitted name i e)
      ∙ ap (λ k. text_of k (inputs_of program emitted name)) (sym kind)

  text_there : {T : Type 0} (r : Result T RowStop) (t : T) → r ≡ Ok t → ((r ≡ Err NoSuchName) ↔ (number_of name (row_of program) ≡ None)) → IsTextOf (row_of program) states name text →
      RowStands (row_of program) states (starts_of (row_of program) ++ numbered (row_of program) emitted) → text ≡ text_of (reducer_kind program name) (inputs_of program emitted name)
  text_there r t ok absent is stands = at (number_of name (row_of program)) refl
    where
      at : (o : Option ℕ) → number_of name (row_of program) ≡ o → text ≡ text_of (reducer_kind program name) (inputs_of program emitted name)
      at None e = let none = absent.1 e in absurd (cc)
      at (Some i) e = text_at is stands i e

  -- the same of a row that is the program's
  pub text_in : {T : Type 0} (row : List Named) (r : Result T RowStop) (t : T) → row ≡ row_of program → r ≡ Ok t → ((r ≡ Err NoSuchName) ↔ (number_of name row ≡ None)) → IsTextOf row states name text →
      RowStands row states (starts_of row ++ numbered row emitted) → text ≡ text_of (reducer_kind program name) (inputs_of program emitted name)
  text_in row r t same ok absent is stands =
      text_there r t ok (subst (λ towers. (r ≡ Err NoSuchName) ↔ (number_of name towers ≡ None)) same absent) (subst (λ towers. IsTextOf towers states name text) same is)
      (subst (λ towers. RowStands towers states (starts_of towers ++ numbered towers emitted)) same stands)

-- a name that the program's row doesn't have has no text
pub no_text : (program : ProgramTree) (row : List Named) (name : List ℕ) (inputs : List Value) → row ≡ row_of program → number_of name row ≡ None → text_of (reducer_kind program name) inputs ≡ []
no_text program row name inputs same none = ap (λ k. text_of k inputs) (others_have_none program name (ap (number_of name) (sym same) ∙ none))
