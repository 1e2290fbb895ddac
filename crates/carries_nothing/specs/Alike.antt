-- Stores, and which of them are alike for a program: those that no step of a legal loop can tell from each other.
-- Source: this project.
use Rattle.std.specs.Prelude.{◌≡◌, ℕ, Bool, true, false, not, ◌&&◌, ◌||◌, List, None}
use Rattle.std.specs.FinMap.{get}
use Rattle.std.specs.Str.{bytes_eq}
use Rattle.loop_data.specs.declared.value.Value.{Value}
use Rattle.loop_grammar.specs.declared.tree.ProgramTree.{ProgramTree}
use Rattle.loop_values.specs.Bindings.{Bindings, place_name}
use Rattle.legality_rules.specs.Scopes.{is_in}
use Rattle.legality_rules.specs.Rules.{is_assigned, outline_of}
use Rattle.loop_meaning.specs.Steps.{body_step}
use Rattle.loop_meaning.specs.Stores.{names_of, start_store, stored_names}

-- a store gives values to the outer variables and the scratches alone
abbrev pub IsStore : ProgramTree → Bindings → Type 0
IsStore program store = (n : List ℕ) → is_in (stored_names program) n ≡ false → get store n ≡ None

abbrev pub is_variable : ProgramTree → List ℕ → Bool
is_variable program n = is_in (names_of program.vars) n

abbrev pub is_scratch : ProgramTree → List ℕ → Bool
is_scratch program n = is_in (names_of program.scratch) n

-- Whether the name lasts: it is an outer variable, or a scratch that no line assigns. A tree that no text spells may give one of
-- them the name under which each step binds its place; that one doesn't last.
abbrev pub is_lasting : ProgramTree → List ℕ → Bool
is_lasting program n =
    (is_variable program n || (is_scratch program n && not (is_assigned (outline_of program) n)))
    && not (bytes_eq n place_name)

-- two stores are alike: they give the same values to the outer variables and to each scratch that no line assigns
abbrev pub Alike : ProgramTree → Bindings → Bindings → Type 0
Alike program store other = (n : List ℕ) → is_lasting program n ≡ true → get store n ≡ get other n

-- one item's step at one place does the same from both stores: it emits the same pairs, ends in the same way, and leaves each
-- store alike with the one that it began from
pub record SameStep (program : ProgramTree) (store other : Bindings) (item : Value)
    (place : ℕ) : Type 0 where
  pub emitted :
      (body_step program store item place).emitted ≡ (body_step program other item place).emitted
  pub end : (body_step program store item place).end ≡ (body_step program other item place).end
  pub left : Alike program store (body_step program store item place).store
  pub left_other : Alike program other (body_step program other item place).store

-- a store that is reached: the one in which the loop begins, or what the step of some item at some place leaves of one
pub data IsReached (program : ProgramTree) : Bindings → Type 0 where
  at_start : IsReached program (start_store program)
  one_more : {store : Bindings} → IsReached program store → (item : Value) (place : ℕ) →
      IsReached program (body_step program store item place).store
