-- The pass for carried scratches finds the first offence of a program against the fourth rule.
use Rattle.std.proofs.Common.{◌≡◌, ℕ, Bool, true, false, List, [], ◌++◌, Option, Some, None, refl, sym, ◌∙◌, ap, subst, map}
use Rattle.std.specs.Prelude.{◌&&◌, ◌||◌}
use Rattle.loop_grammar.specs.declared.tree.ProgramTree.{ProgramTree}
use Rattle.loop_grammar.specs.declared.line.NumberedLine.{NumberedLine}
use Rattle.legality_rules.specs.declared.refusal.Offence.{Offence}
use Rattle.legality_rules.specs.declared.scope.Sort.TheVariants.{LoopVariable, Scratch}
use Rattle.legality_rules.specs.Scopes.{Scope, is_in, is_scratch, item_kind, one_by_one, pattern_kinds, sort_in}
use Rattle.legality_rules.specs.Lines.{in_turn, statement_listing}
use Rattle.legality_rules.specs.Paths.{paths_of}
use Rattle.legality_rules.specs.Rules.{Outline, is_assigned, outline_of}
use Rattle.legality_names.specs.declared.deeds.Deed.TheVariants.{Assigns}
use Rattle.legality_names.specs.Answers.{answer}
use Rattle.legality_names.specs.Deeds.{done_in}
use Rattle.legality_names.proofs.NameLemmas.{one_of_both}
use Rattle.legality_names.proofs.FirstMet.{by_fourth, first_met}
use Rattle.legality_names.proofs.DeedLemmas.{deeds_of}
use Rattle.legality_names.proofs.BaseScope.{Plain, after_inits, after_vars, base_scoped, inner_names, ints, known_of, names_of, plain_each, plain_joined, plain_vars, scope_inner}
use Rattle.legality_names.proofs.Parts.{assigned_are, before_body, body_entries, scope1, scope2, scope3}
use Rattle.legality_scratches.specs.Scans.{Scanned, block_scanned, carriable, outer_names, program_scanned, statement_scanned, without_state}
use Rattle.legality_scratches.proofs.ScanLemmas.{Found, ScanOf, Scoped, all_left}

found_answer : (y : Option Offence) (r : Scanned) (out : List Bool) → Found y r out → without_state r ≡ answer y
found_answer None r out f = ap without_state f
found_answer (Some o) r out f = ap without_state f

outer_same : (vars names inner : List (List ℕ)) (n : List ℕ) → is_in ((vars ++ names) ++ inner) n ≡ is_in ((names ++ inner) ++ vars) n
outer_same vars names inner n =
    one_of_both (vars ++ names) inner n ∙ ap (λ b. b || is_in inner n) (one_of_both vars names n) ∙ turned (is_in vars n) (is_in names n) (is_in inner n)
    ∙ ap (λ b. b || is_in vars n) (sym (one_of_both names inner n)) ∙ sym (one_of_both (names ++ inner) vars n)
  where
    turned : (a b c : Bool) → ((a || b) || c) ≡ ((b || c) || a)
    turned true true c = refl
    turned true false true = refl
    turned true false false = refl
    turned false b c = last (b || c)
      where
        last : (t : Bool) → t ≡ (t || false)
        last true = refl
        last false = refl

module _ (p : ProgramTree) where
  abbrev pub outline : Outline
  outline = outline_of p

  abbrev pub carried : Option Offence
  carried = first_met (by_fourth outline) (before_body p) (body_entries p)

  inits_after : (scope3 p) ≡ (scope2 p) ++ known_of Scratch p.scratch
  inits_after = after_inits p.scratch (scope2 p)

  abbrev pub pattern : Scope
  pattern = one_by_one LoopVariable p.head.names (pattern_kinds p.head.names (item_kind p.head.product p.head.axes))

  abbrev pub inner_scope : Scope
  inner_scope = one_by_one LoopVariable (inner_names p.head.inner) (ints p.head.inner)

  outer_plain : Plain (scope2 p) ((names_of p.vars ++ p.head.names) ++ inner_names p.head.inner)
  outer_plain =
      let P : Scope → Type 0 = λ z. Plain z ((names_of p.vars ++ p.head.names) ++ inner_names p.head.inner) in
      let Q : Scope → Type 0 = λ z. Plain z (names_of p.vars) in
      let vars : Plain (scope1 p) (names_of p.vars) = subst Q (sym (after_vars p.vars [])) (plain_vars p.vars) in
      let first : Plain ((scope1 p) ++ pattern) (names_of p.vars ++ p.head.names) =
      plain_joined (scope1 p) pattern (names_of p.vars) p.head.names vars (plain_each p.head.names (pattern_kinds p.head.names (item_kind p.head.product p.head.axes))) in
      subst P (sym (scope_inner p.head p.head.inner ((scope1 p) ++ pattern)))
      (plain_joined ((scope1 p) ++ pattern) inner_scope (names_of p.vars ++ p.head.names) (inner_names p.head.inner) first (plain_each (inner_names p.head.inner) (ints p.head.inner)))

  scoped : deeds_of Assigns (body_entries p) ≡ done_in Assigns p.body → Scoped outline (carriable p) (scope3 p)
  scoped e n =
      ap (λ z. is_scratch (sort_in z n) && is_assigned outline n) inits_after
      ∙ ap (λ ns. is_scratch (sort_in ((scope2 p) ++ known_of Scratch p.scratch) n) && is_in ns n) (assigned_are p (done_in Assigns p.body) e)
      ∙ base_scoped (scope2 p) ((names_of p.vars ++ p.head.names) ++ inner_names p.head.inner) p.scratch (done_in Assigns p.body) outer_plain (outer_names p) (outer_same (names_of p.vars) p.head.names (inner_names p.head.inner)) n

  pub pass_is : {rest : List NumberedLine} (n : ℕ) →
      ScanOf outline (carriable p) n rest (paths_of p) (in_turn (map statement_listing p.body)) (block_scanned (map (statement_scanned (carriable p)) p.body)) →
      deeds_of Assigns (body_entries p) ≡ done_in Assigns p.body → program_scanned p ≡ answer carried
  pass_is n scan e =
      let names = carriable p in
      let r : List Bool → Scanned = block_scanned (map (statement_scanned names) p.body) in
      ap (λ marks. without_state (r marks)) (all_left names)
      ∙ found_answer carried (r (map (λ (m : List ℕ). true) names)) _ (scan.finds (λ m. true) (λ l m g h. refl) (scope3 p) (before_body p) (scoped e))
