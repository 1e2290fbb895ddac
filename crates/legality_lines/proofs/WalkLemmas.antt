-- The walk over the statements of a body finds the first offence against all rules but the fourth.
use Rattle.std.proofs.Common.{◌≡◌, ℕ, Bool, true, false, List, [], ◌∷◌, ◌++◌, Option, Some, None, Result, Ok, Err, refl, sym, ◌∙◌, ap, subst, append_assoc, append-nil, map, length, take, codes}
use Rattle.std.specs.Option.{option_and_then}
use Rattle.loop_data.specs.declared.statement.Statement.{Statement}
use Rattle.loop_data.specs.declared.statement.Statement.TheVariants as stm
use Rattle.loop_data.specs.declared.statement.Branch.{Branch}
use Rattle.loop_data.specs.declared.head.Binding.{Binding}
use Rattle.loop_grammar.specs.declared.line.NumberedLine.{NumberedLine}
use Rattle.loop_grammar.specs.Nesting.{NestsStatement, NestsBlock, NestsParts}
use Rattle.loop_values.specs.Kinds.{kind_of}
use Rattle.legality_rules.specs.declared.refusal.Offence.{Offence}
use Rattle.legality_rules.specs.declared.refusal.LegalRefusal.{LegalRefusal}
use Rattle.legality_rules.specs.declared.scope.Sort.TheVariants.{Local, Scratch, Variable}
use Rattle.legality_rules.specs.Scopes.{Scope, found, kinds_in, known_as, pattern_known, unwrapped}
use Rattle.legality_rules.specs.Lines.{Entry, Listed, bound, in_turn, branches_in_turn, condition, first_name, init_listing, keep_line, let_line, one_entry, reduce_line, set_line, statement_listing, branch_listing, var_listing}
use Rattle.legality_rules.specs.Rules.{Outline, Spot, bound_by, reduced_by, site_at, sites_in}
use Rattle.legality_rules.specs.Cuts.{or_else, scope_after}
use Rattle.legality_rules.proofs.Layers.{listing-Let, listing-Set, listing-Keep, listing-Reduce, listing-Continue, listing-Break, listing-If, listing-branch}
use Rattle.legality_lines.specs.declared.state.State.{State}
use Rattle.legality_names.specs.Answers.{and_then}
use Rattle.legality_lines.specs.LineChecks.{Checked, binding_checked, condition_checked, condition_word, keep_checked, let_checked, set_checked}
use Rattle.legality_lines.specs.ReduceChecks.{reduce_checked}
use Rattle.legality_lines.specs.States.{leaving}
use Rattle.legality_lines.specs.Walks.{Check, bindings_checked, block_checked, branch_checked, branches_checked, inside_checked, statement_checked}
use Rattle.legality_names.proofs.FirstMet.{by_others, first_met, met_joined, or_none}
use Rattle.legality_lines.proofs.Knowing.{KindMap, Kept, Knows, made, knows_front, bound_added, sites_added}
use Rattle.legality_lines.proofs.Going.{Goes, goes_then, goes_is, checks_assoc}
use Rattle.legality_lines.proofs.LineLemmas.{let_goes, set_goes, condition_goes, keep_goes, var_goes, init_goes}
use Rattle.legality_lines.proofs.ReduceLemmas.{reduce_goes}
use Rattle.legality_lines.proofs.WalkLayers.{checked-Let, checked-Set, checked-Keep, checked-Reduce, checked-Continue, checked-Break, checked-If, checked-branch}

taken_front : (scope more : Scope) → take (length scope) (scope ++ more) ≡ scope
taken_front [] more = refl
taken_front (x ∷ scope) more = ap (λ z. x ∷ z) (taken_front scope more)

module _ (outline : Outline) where
  abbrev reducers : List (List ℕ)
  reducers = reduced_by outline.entries

  abbrev by : Spot → Option Offence
  by = by_others outline

  abbrev at : List Entry → Scope → KindMap → State
  at before scope kinds = made (bound_by before) (sites_in before) scope kinds

  -- the check of something with these entries, and this scope after them, finds the first offence
  abbrev pub Walks : (Scope → Listed) → Check → Type 0
  Walks here check =
      (before : List Entry) (scope : Scope) (kinds : KindMap) → Knows kinds (bound_by before) scope →
      let z : Listed = here scope in Goes (first_met by before z.entries) (check (at before scope kinds)) (before ++ z.entries) z.scope

  abbrev as_part : (Scope → List Entry) → Scope → Listed
  as_part entries scope = record { entries = entries scope; scope = scope }

  walks_is : (here there : Scope → Listed) (check other : Check) → ((scope : Scope) → here scope ≡ there scope) → ((state : State) → check state ≡ other state) → Walks there other → Walks here check
  walks_is here there check other e f w before scope kinds knows =
      let x : Listed = here scope in
      let y : Listed = there scope in
      goes_is (first_met by before x.entries) (first_met by before y.entries) (check (at before scope kinds)) (other (at before scope kinds)) (before ++ x.entries) (before ++ y.entries) x.scope y.scope
      (ap (λ (z : Listed). first_met by before z.entries) (e scope)) (f (at before scope kinds)) (sym (ap (λ (z : Listed). before ++ z.entries) (e scope))) (sym (ap (λ (z : Listed). z.scope) (e scope)))
      (w before scope kinds knows)

  nothing_walks : Walks (λ scope. record { entries = []; scope = scope }) Ok
  nothing_walks before scope kinds knows =
      let P : List Entry → Type 0 = λ z. Kept (at before scope kinds) z scope in
      (at before scope kinds, refl, subst P (sym (append-nil before)) (kinds, refl, knows))

  one_then : (here there : Scope → Listed) (check other : Check) → Walks here check → Walks there other →
      Walks (λ scope. let x : Listed = here scope in let y : Listed = there x.scope in record { entries = x.entries ++ y.entries; scope = y.scope }) (λ state. and_then (check state) other)
  one_then here there check other w v before scope kinds knows =
      let x : Listed = here scope in
      let y : Listed = there x.scope in
      let state = at before scope kinds in
      goes_is (first_met by before (x.entries ++ y.entries)) (or_else (first_met by before x.entries) (first_met by (before ++ x.entries) y.entries)) (and_then (check state) other) (and_then (check state) other)
      (before ++ (x.entries ++ y.entries)) ((before ++ x.entries) ++ y.entries) y.scope y.scope
      (met_joined by before x.entries y.entries) refl (append_assoc before x.entries y.entries) refl
      (goes_then (first_met by before x.entries) (first_met by (before ++ x.entries) y.entries) (check state) (before ++ x.entries) x.scope ((before ++ x.entries) ++ y.entries) y.scope other
      (w before scope kinds knows) (λ after known. v (before ++ x.entries) x.scope after known))

  -- ---- blocks

  -- a part of a program, and its check; what it binds is put behind the scope
  record Part (here : Scope → Listed) (check : Check) : Type 0 where
    pub walks : Walks here check
    pub more : Scope → Scope
    pub grows : (scope : Scope) → let z : Listed = here scope in z.scope ≡ scope ++ more scope

  abbrev of_block : List Statement → Scope → Listed
  of_block xs scope = record { entries = in_turn (map statement_listing xs) scope; scope = scope_after (map statement_listing xs) scope }

  abbrev block_check : List Statement → Check
  block_check xs = block_checked (map (statement_checked reducers) xs)

  abbrev inside_check : List Statement → Check
  inside_check xs = inside_checked (map (statement_checked reducers) xs)

  leave_kept : (state : State) (earlier : List Entry) (scope more : Scope) → Kept state earlier (scope ++ more) → Kept (leaving (length scope) state) earlier scope
  leave_kept state earlier scope more k = (
    k.0,
    ap (leaving (length scope)) k.1 ∙ ap (λ z. made (bound_by earlier) (sites_in earlier) z k.0) (taken_front scope more),
    knows_front k.0 (bound_by earlier) scope more k.2,
  )

  leave_goes : (x : Option Offence) (r : Checked) (earlier : List Entry) (scope more : Scope) → Goes x r earlier (scope ++ more) →
      Goes x (and_then r (λ after. Ok (leaving (length scope) after))) earlier scope
  leave_goes None r earlier scope more g = (leaving (length scope) g.0, ap (λ z. and_then z (λ after. Ok (leaving (length scope) after))) g.1, leave_kept g.0 earlier scope more g.2)
  leave_goes (Some o) r earlier scope more g = ap (λ z. and_then z (λ after. Ok (leaving (length scope) after))) g

  inside_walks : (xs : List Statement) → Part (of_block xs) (block_check xs) → Walks (as_part (in_turn (map statement_listing xs))) (inside_check xs)
  inside_walks xs part before scope kinds knows =
      let z : Listed = of_block xs scope in
      let P : Scope → Type 0 = λ s. Goes (first_met by before z.entries) (block_check xs (at before scope kinds)) (before ++ z.entries) s in
      leave_goes (first_met by before z.entries) (block_check xs (at before scope kinds)) (before ++ z.entries) scope (part.more scope) (subst P (part.grows scope) (part.walks before scope kinds knows))

  -- ---- branches

  abbrev of_parts : List Branch → List Statement → Scope → List Entry
  of_parts branches other scope = branches_in_turn (codes "elseif") (map branch_listing branches) scope ++ in_turn (map statement_listing other) scope

  abbrev parts_check : Bool → List Branch → List Statement → Check
  parts_check first branches other state = and_then (branches_checked (map (branch_checked reducers) branches) first state) (inside_check other)

  -- an entry that binds nothing and reduces into nothing leaves the state
  after_test : (before : List Entry) (e : Entry) → bound e.says ≡ [] → site_at e.scope e.says ≡ [] → (scope : Scope) (kinds : KindMap) → Knows kinds (bound_by before) scope →
      (at before scope kinds ≡ at (before ++ e ∷ []) scope kinds) × Knows kinds (bound_by (before ++ e ∷ [])) scope
  after_test before e f g scope kinds knows =
      let b : bound_by before ≡ bound_by (before ++ e ∷ []) = sym (bound_added before e ∙ ap (λ z. bound_by before ++ z) f ∙ append-nil (bound_by before)) in
      let s : sites_in before ≡ sites_in (before ++ e ∷ []) = sym (sites_added before e ∙ ap (λ z. sites_in before ++ z) g ∙ append-nil (sites_in before)) in
      let P : List (List ℕ) → Type 0 = λ z. Knows kinds z scope in
      (ap (λ z. made z (sites_in before) scope kinds) b ∙ ap (λ z. made (bound_by (before ++ e ∷ [])) z scope kinds) s, subst P b knows)

  with_branch : (first : Bool) (b : Branch) (branches : List Branch) (other : List Statement) → Walks (as_part (in_turn (map statement_listing b.block))) (inside_check b.block) →
      Walks (as_part (of_parts branches other)) (parts_check false branches other) →
      Walks (as_part (λ scope. branch_listing b (condition_word first) scope ++ of_parts branches other scope)) (parts_check first (b ∷ branches) other)
  with_branch first b branches other w v before scope kinds knows =
      let state = at before scope kinds in
      let test : Entry = record { line = b.line; called = condition_word first; scope = scope; says = condition b.test } in
      let block = in_turn (map statement_listing b.block) scope in
      let rest = of_parts branches other scope in
      let after = before ++ test ∷ [] in
      let parts : Check = parts_check false branches other in
      goes_is (first_met by before (branch_listing b (condition_word first) scope ++ rest)) (or_else (first_met by before (test ∷ [])) (or_else (first_met by after block) (first_met by (after ++ block) rest)))
      (parts_check first (b ∷ branches) other state) (and_then (condition_checked reducers first b.line b.test state) (λ _. and_then (inside_check b.block state) parts))
      (before ++ (branch_listing b (condition_word first) scope ++ rest)) ((after ++ block) ++ rest) scope scope
      (ap (λ es. first_met by before (es ++ rest)) (listing-branch b (condition_word first) scope)
      ∙ ap (or_else (by (record { earlier = before; here = test }))) (met_joined by after block rest)
      ∙ ap (λ z. or_else z (or_else (first_met by after block) (first_met by (after ++ block) rest))) (sym (or_none (by (record { earlier = before; here = test })))))
      (checks_assoc (branch_checked reducers b first state) (branches_checked (map (branch_checked reducers) branches) false) (inside_check other)
      ∙ ap (λ r. and_then r parts) (checked-branch reducers b first state)
      ∙ unit_assoc (condition_checked reducers first b.line b.test state) (inside_check b.block state) parts)
      (append_assoc after block rest ∙ append_assoc before (test ∷ []) (block ++ rest) ∙ ap (λ es. before ++ (es ++ rest)) (sym (listing-branch b (condition_word first) scope)))
      refl
      (condition_goes outline before scope kinds knows first b.line b.test (or_else (first_met by after block) (first_met by (after ++ block) rest)) (and_then (inside_check b.block state) parts)
      ((after ++ block) ++ rest) scope
      (goes_then (first_met by after block) (first_met by (after ++ block) rest) (inside_check b.block state) (after ++ block) scope ((after ++ block) ++ rest) scope parts
      (let same = after_test before test refl refl scope kinds knows in
      let P : State → Type 0 = λ z. Goes (first_met by after block) (inside_check b.block z) (after ++ block) scope in
      subst P (sym same.0) (w after scope kinds same.1))
      (λ more known. v (after ++ block) scope more known)))
    where
      unit_assoc : (r : Result (Unit {0}) LegalRefusal) (f : Checked) (g : Check) → and_then (and_then r (λ _. f)) g ≡ and_then r (λ _. and_then f g)
      unit_assoc (Ok x) f g = refl
      unit_assoc (Err e) f g = refl

  -- ---- statements

  mutual
    statement_part : {r : ℕ} {x : Statement} {from rest : List NumberedLine} → NestsStatement r x from rest → Part (statement_listing x) (statement_checked reducers x)
    statement_part (NestsStatement.let_ {n = k} {names = ns} {x = x}) =
        record {
          walks = walks_is (statement_listing (stm.Let k ns x)) (λ scope. one_entry k (first_name ns) (let_line ns x) (pattern_known Local ns (found (kind_of x (kinds_in scope)))) scope) (statement_checked reducers (stm.Let k ns x)) (let_checked reducers k ns x)
              (λ scope. listing-Let scope k ns x) (λ state. checked-Let reducers state k ns x) (λ before scope kinds knows. let_goes outline before scope kinds knows k ns x);
          more = λ scope. pattern_known Local ns (found (kind_of x (kinds_in scope)));
          grows = λ scope. ap (λ (z : Listed). z.scope) (listing-Let scope k ns x);
        }
    statement_part (NestsStatement.set {n = k} {name = a} {x = x}) =
        record {
          walks = walks_is (statement_listing (stm.Set k a x)) (one_entry k a (set_line a x) []) (statement_checked reducers (stm.Set k a x)) (set_checked reducers k a x)
              (λ scope. listing-Set scope k a x) (λ state. checked-Set reducers state k a x) (λ before scope kinds knows. set_goes outline before scope kinds knows k a x);
          more = λ scope. [];
          grows = λ scope. ap (λ (z : Listed). z.scope) (listing-Set scope k a x);
        }
    statement_part (NestsStatement.keep {n = k} {name = a} {x = x}) =
        record {
          walks = walks_is (statement_listing (stm.Keep k a x)) (λ scope. one_entry k a (keep_line a x) (known_as Local a (option_and_then unwrapped (found (kind_of x (kinds_in scope)))) ∷ []) scope) (statement_checked reducers (stm.Keep k a x)) (keep_checked reducers k a x)
              (λ scope. listing-Keep scope k a x) (λ state. checked-Keep reducers state k a x) (λ before scope kinds knows. keep_goes outline before scope kinds knows k a x);
          more = λ scope. known_as Local a (option_and_then unwrapped (found (kind_of x (kinds_in scope)))) ∷ [];
          grows = λ scope. ap (λ (z : Listed). z.scope) (listing-Keep scope k a x);
        }
    statement_part (NestsStatement.reduce {n = k} {name = a} {x = x} {start = start}) =
        record {
          walks = walks_is (statement_listing (stm.Reduce k a x start)) (one_entry k a (reduce_line a x start) []) (statement_checked reducers (stm.Reduce k a x start)) (reduce_checked reducers k a x start)
              (λ scope. listing-Reduce scope k a x start) (λ state. checked-Reduce reducers state k a x start) (λ before scope kinds knows. reduce_goes outline before scope kinds knows k a x start);
          more = λ scope. [];
          grows = λ scope. ap (λ (z : Listed). z.scope) (listing-Reduce scope k a x start);
        }
    statement_part (NestsStatement.continue {n = k}) =
        record {
          walks = walks_is (statement_listing (stm.Continue k)) (λ scope. record { entries = []; scope = scope }) (statement_checked reducers (stm.Continue k)) Ok
              (λ scope. listing-Continue scope k) (λ state. checked-Continue reducers state k) nothing_walks;
          more = λ scope. [];
          grows = λ scope. ap (λ (z : Listed). z.scope) (listing-Continue scope k) ∙ sym (append-nil scope);
        }
    statement_part (NestsStatement.break {n = k}) =
        record {
          walks = walks_is (statement_listing (stm.Break k)) (λ scope. record { entries = []; scope = scope }) (statement_checked reducers (stm.Break k)) Ok
              (λ scope. listing-Break scope k) (λ state. checked-Break reducers state k) nothing_walks;
          more = λ scope. [];
          grows = λ scope. ap (λ (z : Listed). z.scope) (listing-Break scope k) ∙ sym (append-nil scope);
        }
    statement_part (NestsStatement.if_ {n = k} {m = m} {x = x} {block = block} {branches = branches} {else_line = el} {other = other} b p) =
        let branch : Branch = record { line = k; test = x; block = block } in
        record {
          walks = walks_is (statement_listing (stm.If k (branch ∷ branches) el other m)) (as_part (λ scope. branch_listing branch (codes "if") scope ++ of_parts branches other scope))
              (statement_checked reducers (stm.If k (branch ∷ branches) el other m)) (parts_check true (branch ∷ branches) other)
              (λ scope.
              listing-If scope k (branch ∷ branches) el other m
              ∙ ap (λ (es : List Entry). record { entries = es; scope = scope }) (append_assoc (branch_listing branch (codes "if") scope) (branches_in_turn (codes "elseif") (map branch_listing branches) scope) (in_turn (map statement_listing other) scope)))
              (λ state. checked-If reducers state k (branch ∷ branches) el other m)
              (with_branch true branch branches other (inside_walks block (block_part b)) (parts_walk p));
          more = λ scope. [];
          grows = λ scope. ap (λ (z : Listed). z.scope) (listing-If scope k (branch ∷ branches) el other m) ∙ sym (append-nil scope);
        }

    block_part : {r : ℕ} {xs : List Statement} {from rest : List NumberedLine} → NestsBlock r xs from rest → Part (of_block xs) (block_check xs)
    block_part NestsBlock.none = record { walks = nothing_walks; more = λ scope. []; grows = λ scope. sym (append-nil scope) }
    block_part (NestsBlock.more {x = x} {xs = xs} h b) =
        let first = statement_part h in
        let others = block_part b in
        record {
          walks = one_then (statement_listing x) (of_block xs) (statement_checked reducers x) (block_check xs) first.walks others.walks;
          more = λ scope. let z : Listed = statement_listing x scope in first.more scope ++ others.more z.scope;
          grows = λ scope.
              let z : Listed = statement_listing x scope in
              others.grows z.scope ∙ ap (λ s. s ++ others.more z.scope) (first.grows scope) ∙ append_assoc scope (first.more scope) (others.more z.scope);
        }

    parts_walk : {r m el : ℕ} {branches : List Branch} {other : List Statement} {from rest : List NumberedLine} → NestsParts r branches el other m from rest →
        Walks (as_part (of_parts branches other)) (parts_check false branches other)
    parts_walk (NestsParts.elseif {n = k} {x = x} {block = block} {branches = branches} {other = other} b p) =
        let branch : Branch = record { line = k; test = x; block = block } in
        walks_is (as_part (of_parts (branch ∷ branches) other)) (as_part (λ scope. branch_listing branch (codes "elseif") scope ++ of_parts branches other scope))
        (parts_check false (branch ∷ branches) other) (parts_check false (branch ∷ branches) other)
        (λ scope.
        ap (λ (es : List Entry). record { entries = es; scope = scope }) (append_assoc (branch_listing branch (codes "elseif") scope) (branches_in_turn (codes "elseif") (map branch_listing branches) scope) (in_turn (map statement_listing other) scope)))
        (λ state. refl)
        (with_branch false branch branches other (inside_walks block (block_part b)) (parts_walk p))
    parts_walk (NestsParts.else_ {other = other} b) = inside_walks other (block_part b)
    parts_walk (NestsParts.end) = inside_walks [] (record { walks = nothing_walks; more = λ scope. []; grows = λ scope. sym (append-nil scope) })

  pub block_walks : {r : ℕ} {xs : List Statement} {from rest : List NumberedLine} → NestsBlock r xs from rest → Walks (of_block xs) (block_check xs)
  block_walks b = let part = block_part b in part.walks

  -- ---- `var` and `@init` lines

  pub vars_walk : (bs : List Binding) → Walks (λ scope. record { entries = in_turn (map var_listing bs) scope; scope = scope_after (map var_listing bs) scope }) (bindings_checked Variable bs)
  vars_walk [] = nothing_walks
  vars_walk (b ∷ bs) =
      one_then (var_listing b) (λ scope. record { entries = in_turn (map var_listing bs) scope; scope = scope_after (map var_listing bs) scope }) (binding_checked Variable b) (bindings_checked Variable bs)
      (λ before scope kinds knows. var_goes outline before scope kinds knows b) (vars_walk bs)

  pub inits_walk : (bs : List Binding) → Walks (λ scope. record { entries = in_turn (map init_listing bs) scope; scope = scope_after (map init_listing bs) scope }) (bindings_checked Scratch bs)
  inits_walk [] = nothing_walks
  inits_walk (b ∷ bs) =
      one_then (init_listing b) (λ scope. record { entries = in_turn (map init_listing bs) scope; scope = scope_after (map init_listing bs) scope }) (binding_checked Scratch b) (bindings_checked Scratch bs)
      (λ before scope kinds knows. init_goes outline before scope kinds knows b) (inits_walk bs)
