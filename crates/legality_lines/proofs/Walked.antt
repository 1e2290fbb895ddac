-- The walk over a program finds the first offence against all rules but the fourth.
use Rattle.std.proofs.Common.{◌≡◌, ℕ, List, [], ◌++◌, Option, Some, None, Result, map, ◌∙◌, ap}
use Rattle.std.specs.FinMap.{empty}
use Rattle.loop_grammar.specs.declared.tree.ProgramTree.{ProgramTree}
use Rattle.loop_grammar.specs.declared.line.NumberedLine.{NumberedLine}
use Rattle.loop_grammar.specs.Nesting.{NestsBlock}
use Rattle.legality_rules.specs.declared.refusal.Offence.{Offence}
use Rattle.legality_rules.specs.declared.refusal.LegalRefusal.{LegalRefusal}
use Rattle.legality_rules.specs.declared.scope.Sort.TheVariants.{Scratch, Variable}
use Rattle.legality_rules.specs.Scopes.{Scope}
use Rattle.legality_rules.specs.Lines.{Entry}
use Rattle.legality_rules.specs.Rules.{Outline, Spot, bound_by, outline_of, reduced_by, sites_in}
use Rattle.legality_rules.specs.Cuts.{or_else}
use Rattle.legality_names.specs.Answers.{answer, and_then}
use Rattle.legality_names.proofs.FirstMet.{by_others, first_met}
use Rattle.legality_names.proofs.Parts.{before_body, before_inits, body_entries, init_entries, print_entries, scope1, scope2, scope3, scope4, vars_entries}
use Rattle.legality_lines.specs.declared.state.State.{State}
use Rattle.legality_lines.specs.HeadChecks.{head_checked}
use Rattle.legality_lines.specs.LineChecks.{Checked}
use Rattle.legality_lines.specs.States.{start}
use Rattle.legality_lines.specs.Walks.{bindings_checked, block_checked, prints_checked, program_checked, statement_checked}
use Rattle.legality_lines.proofs.Knowing.{KindMap, Knows, knows_none, made}
use Rattle.legality_lines.proofs.Going.{Goes}
use Rattle.legality_lines.proofs.HeadLemmas.{by_line}
use Rattle.legality_lines.proofs.HeadGoes.{head_goes}
use Rattle.legality_lines.proofs.WalkLemmas.{block_walks, inits_walk, vars_walk}
use Rattle.legality_lines.proofs.PrintLemmas.{prints_go}

abbrev Answer : Type 0
Answer = Result (Unit {0}) LegalRefusal

-- a check, and then one that ends
ends_then : (x y : Option Offence) (r : Checked) (before : List Entry) (inside : Scope) (k : State → Answer) → Goes x r before inside →
    ((kinds : KindMap) → Knows kinds (bound_by before) inside → k (made (bound_by before) (sites_in before) inside kinds) ≡ answer y) → and_then r k ≡ answer (or_else x y)
ends_then None y r before inside k a b = ap (λ z. and_then z k) a.1 ∙ ap k a.2.1 ∙ b a.2.0 a.2.2
ends_then (Some o) y r before inside k a b = ap (λ z. and_then z k) a

module _ (p : ProgramTree) where
  abbrev pub outline : Outline
  outline = outline_of p

  abbrev pub by : Spot → Option Offence
  by = by_others outline

  abbrev pub a_vars : Option Offence
  a_vars = first_met by [] (vars_entries p)

  abbrev pub a_head : Option Offence
  a_head = by_line outline p.head (vars_entries p) (scope1 p)

  abbrev pub a_inits : Option Offence
  a_inits = first_met by (before_inits p) (init_entries p)

  abbrev pub a_body : Option Offence
  a_body = first_met by (before_body p) (body_entries p)

  abbrev pub a_prints : Option Offence
  a_prints = first_met by ((before_body p) ++ (body_entries p)) (print_entries p)

  abbrev pub reducers : List (List ℕ)
  reducers = reduced_by outline.entries

  pub walk_is : {r : ℕ} {from rest : List NumberedLine} → NestsBlock r p.body from rest → program_checked reducers p ≡ answer (or_else a_vars (or_else a_head (or_else a_inits (or_else a_body a_prints))))
  walk_is c =
      let last : State → Answer = λ _. prints_checked reducers p.prints in
      let body : State → Answer = λ st. and_then (block_checked (map (statement_checked reducers) p.body) st) last in
      let inits : State → Answer = λ st. and_then (bindings_checked Scratch p.scratch st) body in
      let head : State → Answer = λ st. and_then (head_checked reducers p.head st) inits in
      ends_then a_vars (or_else a_head (or_else a_inits (or_else a_body a_prints))) (bindings_checked Variable p.vars start) (vars_entries p) (scope1 p) head
      (vars_walk outline p.vars [] [] empty knows_none) (λ kinds1 known1.
      ends_then a_head (or_else a_inits (or_else a_body a_prints)) (head_checked reducers p.head (made (bound_by (vars_entries p)) (sites_in (vars_entries p)) (scope1 p) kinds1)) (before_inits p) (scope2 p) inits
      (head_goes outline p.head (vars_entries p) (scope1 p) kinds1 known1) (λ kinds2 known2.
      ends_then a_inits (or_else a_body a_prints) (bindings_checked Scratch p.scratch (made (bound_by (before_inits p)) (sites_in (before_inits p)) (scope2 p) kinds2)) (before_body p) (scope3 p) body
      (inits_walk outline p.scratch (before_inits p) (scope2 p) kinds2 known2) (λ kinds3 known3.
      ends_then a_body a_prints (block_checked (map (statement_checked reducers) p.body) (made (bound_by (before_body p)) (sites_in (before_body p)) (scope3 p) kinds3)) ((before_body p) ++ (body_entries p)) (scope4 p) last
      (block_walks outline c (before_body p) (scope3 p) kinds3 known3) (λ kinds4 known4. prints_go outline p.prints ((before_body p) ++ (body_entries p)) (scope4 p)))))
