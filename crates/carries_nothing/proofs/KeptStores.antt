-- Stores of a loop: those in which it begins and which its steps leave, and which of them a step can't tell from each other.
use Rattle.std.proofs.Common.{◌≡◌, ℕ, Bool, true, false, cond, List, [], ◌∷◌, Some, refl, ap, sym, ◌∙◌}
use Rattle.std.specs.Prelude.{not, ◌&&◌, ◌||◌}
use Rattle.std.specs.Str.{bytes_eq}
use Rattle.std.specs.FinMap.{empty, get, insert, get-empty}
use Rattle.std.specs.Ordering.{nat_cmp}
use Rattle.std.specs.Cmp.Lexicographic.{slice_cmp}
use Rattle.std.proofs.lemmas.List.Folds.{list_any-append}
use Rattle.loop_data.specs.declared.value.Value.{Value}
use Rattle.loop_data.specs.declared.head.Binding.{Binding}
use Rattle.loop_grammar.specs.declared.tree.ProgramTree.{ProgramTree}
use Rattle.loop_values.specs.Bindings.{Bindings, place_name}
use Rattle.legality_rules.specs.Offences.{IsLegal}
use Rattle.legality_rules.specs.Rules.{is_assigned, outline_of}
use Rattle.legality_rules.specs.Scopes.{is_in}
use Rattle.loop_meaning.specs.Steps.{body_step, first_run, inner_runs, names_for}
use Rattle.loop_meaning.specs.Stores.{names_of, start_store, stored_names, variables, with_literals}
use Rattle.loop_meaning.proofs.StayLemmas.{others_stay}
use Rattle.carries_nothing.specs.Alike.{Alike, IsStore, SameStep, is_lasting, is_scratch, is_variable}
use Rattle.carries_nothing.specs.Bodies.{is_named}
use Rattle.carries_nothing.proofs.LegalLemmas.{lasting_untouched}
use Rattle.carries_nothing.specs.Blocks.{Agree}
use Rattle.carries_nothing.proofs.SameNames.{first_false, get_inserted, second_false}
use Rattle.carries_nothing.proofs.SameSteps.{hidden, keeping_others, step_same}

-- ---- names that are no names of the store have no value

literals_others : (bs : List Binding) (env : Bindings) (n : List ℕ) → is_in (names_of bs) n ≡ false → get (with_literals env bs) n ≡ get env n
literals_others [] env n isnt = refl
literals_others (b ∷ bs) env n isnt =
    literals_others bs (insert env b.name b.value) n (second_false (bytes_eq n b.name) (is_in (names_of bs) n) isnt)
    ∙ get_inserted env b.name n b.value
    ∙ ap (λ c. cond c (Some b.value) (get env n)) (first_false (bytes_eq n b.name) (is_in (names_of bs) n) isnt)

pub start_is_store : (program : ProgramTree) → IsStore program (start_store program)
start_is_store program n isnt =
    let both = sym (list_any-append (bytes_eq n) (names_of program.vars) (names_of program.scratch)) ∙ isnt in
    literals_others program.scratch (variables program) n (second_false (is_in (names_of program.vars) n) (is_in (names_of program.scratch) n) both)
    ∙ literals_others program.vars empty n (first_false (is_in (names_of program.vars) n) (is_in (names_of program.scratch) n) both)
    ∙ get-empty (slice_cmp nat_cmp) n

pub step_leaves_store : (program : ProgramTree) (store : Bindings) (item : Value) (place : ℕ) → IsStore program store → IsStore program (body_step program store item place).store
step_leaves_store program store item place is n isnt =
    keeping_others (stored_names program) n store (inner_runs program program.head.inner 1 (first_run (names_for program store item place))).names isnt ∙ is n isnt

-- ---- a step leaves a store alike with the one that it began from

pub step_alike : (program : ProgramTree) → IsLegal program → (store : Bindings) (item : Value) (place : ℕ) → Alike program store (body_step program store item place).store
step_alike program legal store item place n lasts = sym (others_stay program store item place n (lasting_untouched program legal n lasts))

-- ---- what stores that are alike agree on

-- not hidden: not a name of the store, or one that lasts
told : (program : ProgramTree) (n : List ℕ) (k v s a p : Bool) → is_variable program n ≡ v → is_scratch program n ≡ s → is_assigned (outline_of program) n ≡ a → bytes_eq n place_name ≡ p →
    (((not k || (s && a)) && not p) || p) ≡ false → {P : Type 0} → (is_in (stored_names program) n ≡ false → P) → (is_lasting program n ≡ true → P) → P
told program n k v s a true vs ss us ps e other lasts = absurd (hides (not k || (s && a)) e)
  where
    hides : (b : Bool) → ((b && false) || true) ≡ false → ⊥
    hides true e = absurd (cc)
    hides false e = absurd (cc)
told program n false v s a false vs ss us ps e other lasts = absurd (cc)
told program n true true s a false vs ss us ps e other lasts =
    lasts (ap (λ b. (b || (is_scratch program n && not (is_assigned (outline_of program) n))) && not (bytes_eq n place_name)) vs ∙ ap not ps)
told program n true false true true false vs ss us ps e other lasts = absurd (cc)
told program n true false true false false vs ss us ps e other lasts =
    lasts (ap (λ b. (b || (is_scratch program n && not (is_assigned (outline_of program) n))) && not (bytes_eq n place_name)) vs
    ∙ ap (λ b. (b && not (is_assigned (outline_of program) n)) && not (bytes_eq n place_name)) ss
    ∙ ap (λ b. not b && not (bytes_eq n place_name)) us
    ∙ ap not ps)
told program n true false false a false vs ss us ps e other lasts =
    other (list_any-append (bytes_eq n) (names_of program.vars) (names_of program.scratch) ∙ ap (λ b. b || is_in (names_of program.scratch) n) vs ∙ ss)

pub alike_agrees : (program : ProgramTree) (legal : IsLegal program) (e f : Bindings) → IsStore program e → IsStore program f → Alike program e f → Agree (hidden program legal) e f
alike_agrees program legal e f left right alike n sure =
    told program n (is_named program n) (is_variable program n) (is_scratch program n) (is_assigned (outline_of program) n) (bytes_eq n place_name) refl refl refl refl sure
    (λ isnt. left n isnt ∙ sym (right n isnt)) (λ lasts. alike n lasts)

pub same_steps : (program : ProgramTree) → IsLegal program → (store other : Bindings) → IsStore program store → IsStore program other → Alike program store other → (item : Value) (place : ℕ) →
    SameStep program store other item place
same_steps program legal store other left right alike item place =
    let s = step_same program legal store other item place (alike_agrees program legal store other left right alike) in
    record { emitted = s.emitted; end = s.end; left = step_alike program legal store item place; left_other = step_alike program legal other item place }
