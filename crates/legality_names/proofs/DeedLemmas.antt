-- The names that the lines of a body reduce into, or assign, are those of its entries.
use Rattle.std.proofs.Common.{◌≡◌, ℕ, List, [], ◌∷◌, ◌++◌, Option, refl, sym, ◌∙◌, ap, append_assoc, map, codes, rules}
use Rattle.std.specs.Prelude.{not, flat_map}
use Rattle.loop_data.specs.declared.value.Value.{Value}
use Rattle.loop_data.specs.declared.expr.Expr.{Expr}
use Rattle.loop_data.specs.declared.tower.TowerExpr.{TowerExpr}
use Rattle.loop_data.specs.declared.statement.Statement.{Statement, the_lemmas as statement_lemmas}
use Rattle.loop_data.specs.declared.statement.Statement.TheVariants as stm
use Rattle.loop_data.specs.declared.statement.Branch.{Branch}
use Rattle.loop_grammar.specs.declared.line.NumberedLine.{NumberedLine}
use Rattle.loop_grammar.specs.Nesting.{NestsStatement, NestsBlock, NestsParts}
use Rattle.loop_values.specs.NamesIn.{all_names}
use Rattle.legality_rules.specs.Scopes.{Scope}
use Rattle.legality_rules.specs.Lines.{Entry, Form, Listed, assigned, branches_in_turn, in_turn, reduced, statement_listing, branch_listing}
use Rattle.legality_rules.proofs.Layers.{listing-Let, listing-Set, listing-Keep, listing-Reduce, listing-Continue, listing-Break, listing-If, listing-branch}
use Rattle.legality_names.specs.declared.deeds.Deed.{Deed}
use Rattle.legality_names.specs.declared.deeds.Deed.TheVariants.{Assigns, Reduces}
use Rattle.legality_names.specs.Deeds.{done_by, done_in, done_in_branch, is_assigning, name_if}

module _ (deed : Deed) (line : ℕ) where
  done-Let : (ns : List (List ℕ)) (x : Expr) → done_by deed (stm.Let line ns x) ≡ []
  done-Let ns x = search (rules, statement_lemmas)

  done-Set : (n : List ℕ) (x : Expr) → done_by deed (stm.Set line n x) ≡ name_if (is_assigning deed) n
  done-Set n x = search (rules, statement_lemmas)

  done-Keep : (n : List ℕ) (x : Expr) → done_by deed (stm.Keep line n x) ≡ []
  done-Keep n x = search (rules, statement_lemmas)

  done-Reduce : (n : List ℕ) (tower : TowerExpr) (start : Option Value) → done_by deed (stm.Reduce line n tower start) ≡ name_if (not (is_assigning deed)) n
  done-Reduce n tower start = search (rules, statement_lemmas)

  done-Continue : done_by deed (stm.Continue line) ≡ []
  done-Continue = search (rules, statement_lemmas)

  done-Break : done_by deed (stm.Break line) ≡ []
  done-Break = search (rules, statement_lemmas)

  done-If : (branches : List Branch) (else_line : ℕ) (other : List Statement) (end_line : ℕ) →
      done_by deed (stm.If line branches else_line other end_line) ≡ all_names (map (done_in_branch deed) branches) ++ all_names (map (done_by deed) other)
  done-If branches else_line other end_line = search (rules, statement_lemmas)

done-branch : (deed : Deed) (b : Branch) → done_in_branch deed b ≡ all_names (map (done_by deed) b.block)
done-branch deed b = search (rules, statement_lemmas)

-- what an entry does
abbrev pub deed_of : Deed → Form → List (List ℕ)
deed_of Assigns form = assigned form
deed_of Reduces form = reduced form

abbrev pub deeds_of : Deed → List Entry → List (List ℕ)
deeds_of deed es = flat_map (λ (e : Entry). deed_of deed e.says) es

pub deeds_joined : (deed : Deed) (xs ys : List Entry) → deeds_of deed (xs ++ ys) ≡ deeds_of deed xs ++ deeds_of deed ys
deeds_joined deed [] ys = refl
deeds_joined deed (x ∷ xs) ys = ap (λ z. deed_of deed x.says ++ z) (deeds_joined deed xs ys) ∙ sym (append_assoc (deed_of deed x.says) (deeds_of deed xs) (deeds_of deed ys))

set_deed : (deed : Deed) (n : List ℕ) (x : Expr) → deed_of deed (Form.set_line n x) ++ [] ≡ name_if (is_assigning deed) n
set_deed Assigns n x = refl
set_deed Reduces n x = refl

reduce_deed : (deed : Deed) (n : List ℕ) (x : TowerExpr) (start : Option Value) → deed_of deed (Form.reduce_line n x start) ++ [] ≡ name_if (not (is_assigning deed)) n
reduce_deed Assigns n x start = refl
reduce_deed Reduces n x start = refl

let_deed : (deed : Deed) (ns : List (List ℕ)) (x : Expr) → deed_of deed (Form.let_line ns x) ++ [] ≡ []
let_deed Assigns ns x = refl
let_deed Reduces ns x = refl

keep_deed : (deed : Deed) (n : List ℕ) (x : Expr) → deed_of deed (Form.keep_line n x) ++ [] ≡ []
keep_deed Assigns n x = refl
keep_deed Reduces n x = refl

test_deed : (deed : Deed) (x : Expr) (more : List (List ℕ)) → deed_of deed (Form.condition x) ++ more ≡ more
test_deed Assigns x more = refl
test_deed Reduces x more = refl

module _ (deed : Deed) where
  abbrev of_listed : Listed → List (List ℕ)
  of_listed z = deeds_of deed z.entries

  -- the entries of a branch, and of what follows it
  branch_done : (b : Branch) (word : List ℕ) (scope : Scope) (rest : List Entry) → deeds_of deed (in_turn (map statement_listing b.block) scope) ≡ done_in deed b.block →
      deeds_of deed (branch_listing b word scope ++ rest) ≡ done_in_branch deed b ++ deeds_of deed rest
  branch_done b word scope rest e =
      deeds_joined deed (branch_listing b word scope) rest
      ∙ ap (λ z. z ++ deeds_of deed rest) (ap (deeds_of deed) (listing-branch b word scope) ∙ test_deed deed b.test (deeds_of deed (in_turn (map statement_listing b.block) scope)) ∙ e ∙ sym (done-branch deed b))

  mutual
    statement_done : {r : ℕ} {x : Statement} {from rest : List NumberedLine} → NestsStatement r x from rest → (scope : Scope) → of_listed (statement_listing x scope) ≡ done_by deed x
    statement_done (NestsStatement.let_ {n = k} {names = ns} {x = x}) scope = ap of_listed (listing-Let scope k ns x) ∙ let_deed deed ns x ∙ sym (done-Let deed k ns x)
    statement_done (NestsStatement.set {n = k} {name = n} {x = x}) scope = ap of_listed (listing-Set scope k n x) ∙ set_deed deed n x ∙ sym (done-Set deed k n x)
    statement_done (NestsStatement.keep {n = k} {name = n} {x = x}) scope = ap of_listed (listing-Keep scope k n x) ∙ keep_deed deed n x ∙ sym (done-Keep deed k n x)
    statement_done (NestsStatement.reduce {n = k} {name = n} {x = x} {start = start}) scope =
        ap of_listed (listing-Reduce scope k n x start) ∙ reduce_deed deed n x start ∙ sym (done-Reduce deed k n x start)
    statement_done (NestsStatement.continue {n = k}) scope = ap of_listed (listing-Continue scope k) ∙ sym (done-Continue deed k)
    statement_done (NestsStatement.break {n = k}) scope = ap of_listed (listing-Break scope k) ∙ sym (done-Break deed k)
    statement_done (NestsStatement.if_ {n = k} {m = m} {x = x} {block = block} {branches = branches} {else_line = el} {other = other} b p) scope =
        let branch : Branch = record { line = k; test = x; block = block } in
        let more = branches_in_turn (codes "elseif") (map branch_listing branches) scope in
        let last = in_turn (map statement_listing other) scope in
        ap of_listed (listing-If scope k (branch ∷ branches) el other m)
        ∙ ap (deeds_of deed) (append_assoc (branch_listing branch (codes "if") scope) more last)
        ∙ branch_done branch (codes "if") scope (more ++ last) (block_done b scope)
        ∙ ap (λ z. done_in_branch deed branch ++ z) (parts_done p scope)
        ∙ sym (append_assoc (done_in_branch deed branch) (all_names (map (done_in_branch deed) branches)) (done_in deed other))
        ∙ sym (done-If deed k (branch ∷ branches) el other m)

    pub block_done : {r : ℕ} {xs : List Statement} {from rest : List NumberedLine} → NestsBlock r xs from rest → (scope : Scope) → deeds_of deed (in_turn (map statement_listing xs) scope) ≡ done_in deed xs
    block_done NestsBlock.none scope = refl
    block_done (NestsBlock.more {x = x} {xs = xs} h b) scope =
        let here : Listed = statement_listing x scope in
        deeds_joined deed here.entries (in_turn (map statement_listing xs) here.scope)
        ∙ ap (λ z. z ++ deeds_of deed (in_turn (map statement_listing xs) here.scope)) (statement_done h scope)
        ∙ ap (λ z. done_by deed x ++ z) (block_done b here.scope)

    parts_done : {r m el : ℕ} {branches : List Branch} {other : List Statement} {from rest : List NumberedLine} → NestsParts r branches el other m from rest → (scope : Scope) →
        deeds_of deed (branches_in_turn (codes "elseif") (map branch_listing branches) scope ++ in_turn (map statement_listing other) scope) ≡ all_names (map (done_in_branch deed) branches) ++ done_in deed other
    parts_done (NestsParts.elseif {n = k} {x = x} {block = block} {branches = branches} {other = other} b p) scope =
        let branch : Branch = record { line = k; test = x; block = block } in
        let more = branches_in_turn (codes "elseif") (map branch_listing branches) scope in
        let last = in_turn (map statement_listing other) scope in
        ap (deeds_of deed) (append_assoc (branch_listing branch (codes "elseif") scope) more last)
        ∙ branch_done branch (codes "elseif") scope (more ++ last) (block_done b scope)
        ∙ ap (λ z. done_in_branch deed branch ++ z) (parts_done p scope)
        ∙ sym (append_assoc (done_in_branch deed branch) (all_names (map (done_in_branch deed) branches)) (done_in deed other))
    parts_done (NestsParts.else_ {other = other} b) scope = block_done b scope
    parts_done NestsParts.end scope = refl
