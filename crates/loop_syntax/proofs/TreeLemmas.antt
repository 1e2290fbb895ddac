-- The lines that nest to a tree are the tree's lines, and its parts fit; and the other way round.
use Rattle.std.proofs.Common.{◌≡◌, ◌≢◌, ℕ, zero, suc, ◌==◌, nat_eq, Bool, true, false, ◌&&◌, List, [], ◌∷◌, map, Option, Some, None, refl, ap, sym, ◌∙◌, subst, rules, arith, if◌then◌else◌}
use Rattle.std.proofs.lemmas.Bool.{and_parts, and_from, eqb-true, eq-eqb}
use Rattle.std.proofs.lemmas.Bool.Decides.{nat_tests}
use Rattle.loop_data.specs.declared.value.Value.{Value}
use Rattle.loop_data.specs.declared.expr.Expr.{Expr}
use Rattle.loop_data.specs.declared.tower.TowerExpr.{TowerExpr}
use Rattle.loop_data.specs.declared.statement.Statement.{Statement, the_lemmas, roll-Statement, ind-Statement, map-Statement}
use Rattle.loop_data.specs.declared.statement.Statement.TheVariants as s
use Rattle.loop_data.specs.declared.statement.Statement.TheOpen.{Statement-F, Statement-F as f, Branch-F}
use Rattle.loop_data.specs.declared.statement.Branch.{Branch, roll-Branch, map-Branch}
use Rattle.loop_data.specs.declared.head.Binding.{Binding}
use Rattle.loop_data.specs.declared.head.PrintLine.{PrintLine}
use Rattle.loop_grammar.specs.declared.line.Line.{Line}
use Rattle.loop_grammar.specs.declared.line.Line.TheVariants as l
use Rattle.loop_grammar.specs.declared.line.NumberedLine.{NumberedLine}
use Rattle.loop_grammar.specs.declared.tree.ProgramTree.{ProgramTree}
use Rattle.loop_grammar.specs.Nesting.{on, NestsStatement, NestsBlock, NestsParts, NestsSkip, NestsVars, NestsInits, NestsPrints, Nests}
use Rattle.loop_grammar.specs.TreeLines.{Before, all_before, test_line, more_before, branches_before, else_before, statement_before, branch_before, skip_before, vars_before, inits_before, prints_of, heads_of, tree_lines}
use Rattle.loop_grammar.specs.WellFormed.{Fits, all_fit, BranchFits, branches_fit, starts_at, other_fits, if_fits, statement_fits, branch_fits}
use Rattle.loop_writer.proofs.Placing.{AllNumbered}

-- ---- the lines of each form, and whether it fits

before-Let : (n : ℕ) (names : List (List ℕ)) (x : Expr) (rest : List NumberedLine) → on n (l.Let names x) ∷ rest ≡ statement_before (s.Let n names x) rest
before-Let n names x rest = search (rules, the_lemmas)

before-Set : (n : ℕ) (name : List ℕ) (x : Expr) (rest : List NumberedLine) → on n (l.Set name x) ∷ rest ≡ statement_before (s.Set n name x) rest
before-Set n name x rest = search (rules, the_lemmas)

before-Keep : (n : ℕ) (name : List ℕ) (x : Expr) (rest : List NumberedLine) → on n (l.Keep name x) ∷ rest ≡ statement_before (s.Keep n name x) rest
before-Keep n name x rest = search (rules, the_lemmas)

before-Reduce : (n : ℕ) (name : List ℕ) (x : TowerExpr) (start : Option Value) (rest : List NumberedLine) → on n (l.Reduce name x start) ∷ rest ≡ statement_before (s.Reduce n name x start) rest
before-Reduce n name x start rest = search (rules, the_lemmas)

before-Continue : (n : ℕ) (rest : List NumberedLine) → on n l.Continue ∷ rest ≡ statement_before (s.Continue n) rest
before-Continue n rest = search (rules, the_lemmas)

before-Break : (n : ℕ) (rest : List NumberedLine) → on n l.Break ∷ rest ≡ statement_before (s.Break n) rest
before-Break n rest = search (rules, the_lemmas)

before-If : (n : ℕ) (branches : List Branch) (else_line : ℕ) (other : List Statement) (m : ℕ) (rest : List NumberedLine) →
    branches_before (map branch_before branches) (else_before else_line (map statement_before other) (on m l.End ∷ rest)) ≡ statement_before (s.If n branches else_line other m) rest
before-If n branches else_line other m rest = search (rules, the_lemmas)

before-Branch : (n : ℕ) (x : Expr) (block : List Statement) (first : Bool) (rest : List NumberedLine) →
    on n (test_line first x) ∷ all_before (map statement_before block) rest ≡ branch_before (record { line = n; test = x; block = block }) first rest
before-Branch n x block first rest = search (rules, the_lemmas)

fits-Let : (n : ℕ) (names : List (List ℕ)) (x : Expr) (room : ℕ) → true ≡ statement_fits (s.Let n names x) room
fits-Let n names x room = search (rules, the_lemmas)

fits-Set : (n : ℕ) (name : List ℕ) (x : Expr) (room : ℕ) → true ≡ statement_fits (s.Set n name x) room
fits-Set n name x room = search (rules, the_lemmas)

fits-Keep : (n : ℕ) (name : List ℕ) (x : Expr) (room : ℕ) → true ≡ statement_fits (s.Keep n name x) room
fits-Keep n name x room = search (rules, the_lemmas)

fits-Reduce : (n : ℕ) (name : List ℕ) (x : TowerExpr) (start : Option Value) (room : ℕ) → true ≡ statement_fits (s.Reduce n name x start) room
fits-Reduce n name x start room = search (rules, the_lemmas)

fits-Continue : (n room : ℕ) → true ≡ statement_fits (s.Continue n) room
fits-Continue n room = search (rules, the_lemmas)

fits-Break : (n room : ℕ) → true ≡ statement_fits (s.Break n) room
fits-Break n room = search (rules, the_lemmas)

fits-If : (n : ℕ) (branches : List Branch) (else_line : ℕ) (other : List Statement) (m room : ℕ) →
    if_fits n (map branch_fits branches) else_line (map statement_fits other) room ≡ statement_fits (s.If n branches else_line other m) room
fits-If n branches else_line other m room = search (rules, the_lemmas)

fits-Branch : (n : ℕ) (x : Expr) (block : List Statement) → ◌≡◌ {A = BranchFits} (record { line = n; block = all_fit (map statement_fits block) }) (branch_fits (record { line = n; test = x; block = block }))
fits-Branch n x block = search (rules, the_lemmas)

-- ---- from lines that nest

-- from the front of `from` up to `rest` these lines stand, which fit
pub record Stands (lines : Before) (fits : Bool) (from rest : List NumberedLine) : Type 0 where
  pub same : from ≡ lines rest
  pub fit : fits ≡ true
  pub later : AllNumbered rest

-- an `else` stands on a line that isn't 0
else_there : (n : ℕ) (ps : List Before) (rest : List NumberedLine) → n ≢ 0 → on n l.Else ∷ all_before ps rest ≡ else_before n ps rest
else_there n ps rest h = let no : nat_eq n 0 ≡ false = grind (arith, nat_tests) in ap (λ (t : Bool). if t then rest else on n l.Else ∷ all_before ps rest) (sym no)

-- what follows an `else`, or that there is none
other_there : (n : ℕ) (fs : List Fits) (room : ℕ) → n ≢ 0 → all_fit fs room ≡ true → other_fits n fs room ≡ true
other_there zero fs room some h = absurd (some refl)
other_there (suc n) fs room some h = h

one_stands : (n : ℕ) (form : Line) (lines : Before) (fits : Bool) (rest : List NumberedLine) → on n form ∷ rest ≡ lines rest → true ≡ fits → AllNumbered (on n form ∷ rest) → Stands lines fits (on n form ∷ rest) rest
one_stands n form lines fits rest same fit h = record { same = same; fit = sym fit; later = h.1 }

-- the branches behind the first, the `else` with its block, and the `end`
abbrev pub parts_before : List Branch → ℕ → List Statement → ℕ → Before
parts_before branches else_line other m rest = more_before (map branch_before branches) (else_before else_line (map statement_before other) (on m l.End ∷ rest))

abbrev pub parts_fit : List Branch → ℕ → List Statement → ℕ → Bool
parts_fit branches else_line other room = branches_fit (map branch_fits branches) room && other_fits else_line (map statement_fits other) room

mutual
  statement_stands : {r : ℕ} {x : Statement} {from rest : List NumberedLine} → NestsStatement r x from rest → AllNumbered from → Stands (statement_before x) (statement_fits x r) from rest
  statement_stands {r = r} (NestsStatement.let_ {n = n} {names = names} {x = x} {rest = rest}) h = one_stands n (l.Let names x) (statement_before (s.Let n names x)) _ rest (before-Let n names x rest) (fits-Let n names x r) h
  statement_stands {r = r} (NestsStatement.set {n = n} {name = name} {x = x} {rest = rest}) h = one_stands n (l.Set name x) (statement_before (s.Set n name x)) _ rest (before-Set n name x rest) (fits-Set n name x r) h
  statement_stands {r = r} (NestsStatement.keep {n = n} {name = name} {x = x} {rest = rest}) h = one_stands n (l.Keep name x) (statement_before (s.Keep n name x)) _ rest (before-Keep n name x rest) (fits-Keep n name x r) h
  statement_stands {r = r} (NestsStatement.reduce {n = n} {name = name} {x = x} {start = start} {rest = rest}) h =
      one_stands n (l.Reduce name x start) (statement_before (s.Reduce n name x start)) _ rest (before-Reduce n name x start rest) (fits-Reduce n name x start r) h
  statement_stands {r = r} (NestsStatement.continue {n = n} {rest = rest}) h = one_stands n l.Continue (statement_before (s.Continue n)) _ rest (before-Continue n rest) (fits-Continue n r) h
  statement_stands {r = r} (NestsStatement.break {n = n} {rest = rest}) h = one_stands n l.Break (statement_before (s.Break n)) _ rest (before-Break n rest) (fits-Break n r) h
  statement_stands (NestsStatement.if_ {r = r} {n = n} {m = m} {x = x} {block = block} {branches = branches} {else_line = else_line} {other = other} {ls = ls} {us = us} {rest = rest} b p) h =
      let i = block_stands b h.1 in
      let j = parts_stands p i.later in
      let first : Branch = record { line = n; test = x; block = block } in
      let all : on n (l.If x) ∷ ls ≡ on n (l.If x) ∷ all_before (map statement_before block) (parts_before branches else_line other m rest) =
      ap (λ (xs : List NumberedLine). on n (l.If x) ∷ xs) (i.same ∙ ap (λ (xs : List NumberedLine). all_before (map statement_before block) xs) j.same) in
      let whole : on n (l.If x) ∷ ls ≡ branches_before (map branch_before (first ∷ branches)) (else_before else_line (map statement_before other) (on m l.End ∷ rest)) =
      all ∙ before-Branch n x block true (parts_before branches else_line other m rest) in
      let both = and_parts (branches_fit (map branch_fits branches) r) (other_fits else_line (map statement_fits other) r) j.fit in
      let P : BranchFits → Type 0 = λ (t : BranchFits). (starts_at n (t ∷ map branch_fits branches) && (branches_fit (t ∷ map branch_fits branches) r && other_fits else_line (map statement_fits other) r)) ≡ true in
      let fit : P (record { line = n; block = all_fit (map statement_fits block) }) =
      and_from (n == n) ((all_fit (map statement_fits block) r && branches_fit (map branch_fits branches) r) && other_fits else_line (map statement_fits other) r) (eq-eqb n n refl)
      (and_from (all_fit (map statement_fits block) r && branches_fit (map branch_fits branches) r) (other_fits else_line (map statement_fits other) r)
      (and_from (all_fit (map statement_fits block) r) (branches_fit (map branch_fits branches) r) i.fit both.0) both.1) in
      record {
        same = whole ∙ before-If n (first ∷ branches) else_line other m rest;
        fit = sym (fits-If n (first ∷ branches) else_line other m (suc r)) ∙ subst P (fits-Branch n x block) fit;
        later = j.later;
      }

  block_stands : {r : ℕ} {xs : List Statement} {from rest : List NumberedLine} → NestsBlock r xs from rest → AllNumbered from → Stands (all_before (map statement_before xs)) (all_fit (map statement_fits xs) r) from rest
  block_stands NestsBlock.none h = record { same = refl; fit = refl; later = h }
  block_stands (NestsBlock.more {r = r} {x = x} {xs = xs} p b) h =
      let i = statement_stands p h in
      let j = block_stands b i.later in
      record { same = i.same ∙ ap (λ (ys : List NumberedLine). statement_before x ys) j.same; fit = and_from (statement_fits x r) (all_fit (map statement_fits xs) r) i.fit j.fit; later = j.later }

  parts_stands : {r : ℕ} {branches : List Branch} {else_line : ℕ} {other : List Statement} {m : ℕ} {from rest : List NumberedLine} → NestsParts r branches else_line other m from rest →
      AllNumbered from → Stands (parts_before branches else_line other m) (parts_fit branches else_line other r) from rest
  parts_stands (NestsParts.elseif {r = r} {n = n} {m = m} {x = x} {block = block} {branches = branches} {else_line = else_line} {other = other} {ls = ls} {us = us} {rest = rest} b p) h =
      let i = block_stands b h.1 in
      let j = parts_stands p i.later in
      let all : on n (l.ElseIf x) ∷ ls ≡ on n (l.ElseIf x) ∷ all_before (map statement_before block) (parts_before branches else_line other m rest) =
      ap (λ (xs : List NumberedLine). on n (l.ElseIf x) ∷ xs) (i.same ∙ ap (λ (xs : List NumberedLine). all_before (map statement_before block) xs) j.same) in
      let both = and_parts (branches_fit (map branch_fits branches) r) (other_fits else_line (map statement_fits other) r) j.fit in
      let P : BranchFits → Type 0 = λ (t : BranchFits). (branches_fit (t ∷ map branch_fits branches) r && other_fits else_line (map statement_fits other) r) ≡ true in
      let fit : P (record { line = n; block = all_fit (map statement_fits block) }) =
      and_from (all_fit (map statement_fits block) r && branches_fit (map branch_fits branches) r) (other_fits else_line (map statement_fits other) r)
      (and_from (all_fit (map statement_fits block) r) (branches_fit (map branch_fits branches) r) i.fit both.0) both.1 in
      record { same = all ∙ before-Branch n x block false (parts_before branches else_line other m rest); fit = subst P (fits-Branch n x block) fit; later = j.later }
  parts_stands (NestsParts.else_ {r = r} {n = n} {m = m} {other = other} {ls = ls} {rest = rest} b) h =
      let i = block_stands b h.1 in
      record {
        same = ap (λ (xs : List NumberedLine). on n l.Else ∷ xs) i.same ∙ else_there n (map statement_before other) (on m l.End ∷ rest) h.0;
        fit = other_there n (map statement_fits other) r h.0 i.fit;
        later = i.later.1;
      }
  parts_stands (NestsParts.end {m = m} {rest = rest}) h = record { same = refl; fit = refl; later = h.1 }

skip_stands : {skip : Option ℕ} {from rest : List NumberedLine} → NestsSkip skip from rest → AllNumbered from → Stands (skip_before skip) true from rest
skip_stands NestsSkip.none h = record { same = refl; fit = refl; later = h }
skip_stands NestsSkip.one h = record { same = refl; fit = refl; later = h.1 }

vars_stand : {bs : List Binding} {from rest : List NumberedLine} → NestsVars bs from rest → AllNumbered from → Stands (vars_before bs) true from rest
vars_stand NestsVars.none h = record { same = refl; fit = refl; later = h }
vars_stand (NestsVars.more {n = n} {name = name} {v = v} b) h = let k = vars_stand b h.1 in record { same = ap (λ (xs : List NumberedLine). on n (l.Var name v) ∷ xs) k.same; fit = refl; later = k.later }

inits_stand : {bs : List Binding} {from rest : List NumberedLine} → NestsInits bs from rest → AllNumbered from → Stands (inits_before bs) true from rest
inits_stand NestsInits.none h = record { same = refl; fit = refl; later = h }
inits_stand (NestsInits.more {n = n} {name = name} {v = v} b) h = let k = inits_stand b h.1 in record { same = ap (λ (xs : List NumberedLine). on n (l.Init name v) ∷ xs) k.same; fit = refl; later = k.later }

prints_stand : {ps : List PrintLine} {from : List NumberedLine} → NestsPrints ps from → from ≡ prints_of ps
prints_stand NestsPrints.none = refl
prints_stand (NestsPrints.more {n = n} {name = name} b) = ap (λ (xs : List NumberedLine). on n (l.Print name) ∷ xs) (prints_stand b)

-- the lines are the tree's, and its body fits
pub record TreeStands (room : ℕ) (p : ProgramTree) (forms : List NumberedLine) : Type 0 where
  pub same : forms ≡ tree_lines p
  pub fit : all_fit (map statement_fits p.body) room ≡ true

pub tree_stands : {r : ℕ} {p : ProgramTree} {forms : List NumberedLine} → Nests (suc r) p forms → AllNumbered forms → TreeStands r p forms
tree_stands (Nests.program {n = n} {m = m} {skip = skip} {vars = vars} {scratch = scratch} {h = heads} {body = body} {prints = prints} {ks = ks} {ls = ls} {us = us} {vs = vs} {ws = ws} z a b c e) h =
    let o = skip_stands z h in
    let i = vars_stand a o.later in
    let j = inits_stand b i.later.1 in
    let k = block_stands c j.later in
    let q = prints_stand e in
    record {
      same = o.same ∙ ap (λ (xs : List NumberedLine). skip_before skip xs) (i.same ∙ ap (λ (xs : List NumberedLine). vars_before vars (on n (l.For heads) ∷ xs))
          (j.same ∙ ap (λ (xs : List NumberedLine). inits_before scratch xs) (k.same ∙ ap (λ (xs : List NumberedLine). all_before (map statement_before body) (on m l.End ∷ xs)) q)));
      fit = k.fit;
    }

-- ---- lines that nest, from a tree whose parts fit

abbrev StatementNests : Statement → Type 0
StatementNests x = (r : ℕ) → statement_fits x r ≡ true → (rest : List NumberedLine) → NestsStatement r x (statement_before x rest) rest

abbrev BranchNests : Branch → Type 0
BranchNests b = (r : ℕ) → all_fit (map statement_fits b.block) r ≡ true → (rest : List NumberedLine) → NestsBlock r b.block (all_before (map statement_before b.block) rest) rest

abbrev SuchStatement : Type 0
SuchStatement = (x : Statement) × StatementNests x

abbrev bare : SuchStatement → Statement
bare x = x.0

abbrev SuchBranch : Type 0
SuchBranch = (b : Branch) × BranchNests b

abbrev bare_branch : SuchBranch → Branch
bare_branch b = b.0

block_nests : (ss : List SuchStatement) (r : ℕ) → all_fit (map statement_fits (map bare ss)) r ≡ true → (rest : List NumberedLine) → NestsBlock r (map bare ss) (all_before (map statement_before (map bare ss)) rest) rest
block_nests [] r h rest = NestsBlock.none
block_nests (x ∷ ss) r h rest =
    let p = and_parts (statement_fits x.0 r) (all_fit (map statement_fits (map bare ss)) r) h in
    NestsBlock.more (x.1 r p.0 (all_before (map statement_before (map bare ss)) rest)) (block_nests ss r p.1 rest)

some_line : (n : ℕ) → suc n ≢ 0
some_line n h = omega arith

parts_nests : (bs : List SuchBranch) (else_line : ℕ) (os : List SuchStatement) (m r : ℕ) → branches_fit (map branch_fits (map bare_branch bs)) r ≡ true →
    other_fits else_line (map statement_fits (map bare os)) r ≡ true → (rest : List NumberedLine) →
    NestsParts r (map bare_branch bs) else_line (map bare os) m (parts_before (map bare_branch bs) else_line (map bare os) m rest) rest
parts_nests [] zero [] m r h g rest = NestsParts.end
parts_nests [] zero (o ∷ os) m r h g rest = absurd (cc)
parts_nests [] (suc n) os m r h g rest =
    subst (λ (ls : List NumberedLine). NestsParts r [] (suc n) (map bare os) m ls rest) (else_there (suc n) (map statement_before (map bare os)) (on m l.End ∷ rest) (some_line n))
    (NestsParts.else_ (block_nests os r g (on m l.End ∷ rest)))
parts_nests (b ∷ bs) else_line os m r h g rest =
    let branches = map bare_branch bs in
    let is = fits-Branch b.0.line b.0.test b.0.block in
    let p = and_parts ((branch_fits b.0).block r) (branches_fit (map branch_fits branches) r) h in
    let fit : all_fit (map statement_fits b.0.block) r ≡ true = ap (λ (t : BranchFits). t.block r) is ∙ p.0 in
    let tail = parts_before branches else_line (map bare os) m rest in
    subst (λ (ls : List NumberedLine). NestsParts r (b.0 ∷ branches) else_line (map bare os) m ls rest) (before-Branch b.0.line b.0.test b.0.block false tail)
    (NestsParts.elseif {n = b.0.line} {x = b.0.test} (b.1 r fit tail) (parts_nests bs else_line os m r p.1 g rest))

if_room : (n : ℕ) (bs : List SuchBranch) (else_line : ℕ) (os : List SuchStatement) (m room : ℕ) → if_fits n (map branch_fits (map bare_branch bs)) else_line (map statement_fits (map bare os)) room ≡ true →
    (rest : List NumberedLine) → NestsStatement room (s.If n (map bare_branch bs) else_line (map bare os) m) (statement_before (s.If n (map bare_branch bs) else_line (map bare os) m) rest) rest
if_room n bs else_line os m zero h rest = absurd (cc)
if_room n [] else_line os m (suc r) h rest = absurd (cc)
if_room n (b ∷ bs) else_line os m (suc r) h rest =
    let branches = map bare_branch bs in
    let other = map bare os in
    let is = fits-Branch b.0.line b.0.test b.0.block in
    let others = other_fits else_line (map statement_fits other) r in
    let p = and_parts (n == (branch_fits b.0).line) (branches_fit (map branch_fits (b.0 ∷ branches)) r && others) h in
    let q = and_parts (branches_fit (map branch_fits (b.0 ∷ branches)) r) others p.1 in
    let t = and_parts ((branch_fits b.0).block r) (branches_fit (map branch_fits branches) r) q.0 in
    let fit : all_fit (map statement_fits b.0.block) r ≡ true = ap (λ (c : BranchFits). c.block r) is ∙ t.0 in
    let tail = parts_before branches else_line other m rest in
    let line : n ≡ b.0.line = eqb-true n (branch_fits b.0).line p.0 ∙ sym (ap (λ (c : BranchFits). c.line) is) in
    let P : ℕ → Type 0 = λ k. NestsStatement (suc r) (s.If n (record { line = k; test = b.0.test; block = b.0.block } ∷ branches) else_line other m)
    (on k (l.If b.0.test) ∷ all_before (map statement_before b.0.block) tail) rest in
    let here : P n = NestsStatement.if_ (b.1 r fit tail) (parts_nests bs else_line os m r t.1 q.1 rest) in
    subst (λ (ls : List NumberedLine). NestsStatement (suc r) (s.If n (b.0 ∷ branches) else_line other m) ls rest)
    (before-Branch b.0.line b.0.test b.0.block true tail ∙ before-If n (b.0 ∷ branches) else_line other m rest) (subst P line here)

branch_layer : (z : Branch-F SuchStatement SuchBranch) → BranchNests (roll-Branch (map-Branch SuchStatement SuchBranch Statement Branch bare bare_branch z))
branch_layer z r h rest = block_nests z.block r h rest

-- a statement of one line
one_nests : (x : Statement) (n : ℕ) (form : Line) → ((rest : List NumberedLine) → on n form ∷ rest ≡ statement_before x rest) →
    ((r : ℕ) (rest : List NumberedLine) → NestsStatement r x (on n form ∷ rest) rest) → StatementNests x
one_nests x n form same d r h rest = subst (λ (ls : List NumberedLine). NestsStatement r x ls rest) (same rest) (d r rest)

statement_layer : (y : Statement-F SuchStatement SuchBranch) → StatementNests (roll-Statement (map-Statement SuchStatement SuchBranch Statement Branch bare bare_branch y))
statement_layer (f.Let n names x) = subst StatementNests (sym (s.rolls-Let n names x)) (one_nests (s.Let n names x) n (l.Let names x) (before-Let n names x) (λ r rest. NestsStatement.let_))
statement_layer (f.Set n name x) = subst StatementNests (sym (s.rolls-Set n name x)) (one_nests (s.Set n name x) n (l.Set name x) (before-Set n name x) (λ r rest. NestsStatement.set))
statement_layer (f.Keep n name x) = subst StatementNests (sym (s.rolls-Keep n name x)) (one_nests (s.Keep n name x) n (l.Keep name x) (before-Keep n name x) (λ r rest. NestsStatement.keep))
statement_layer (f.Reduce n name x start) =
    subst StatementNests (sym (s.rolls-Reduce n name x start)) (one_nests (s.Reduce n name x start) n (l.Reduce name x start) (before-Reduce n name x start) (λ r rest. NestsStatement.reduce))
statement_layer (f.Continue n) = subst StatementNests (sym (s.rolls-Continue n)) (one_nests (s.Continue n) n l.Continue (before-Continue n) (λ r rest. NestsStatement.continue))
statement_layer (f.Break n) = subst StatementNests (sym (s.rolls-Break n)) (one_nests (s.Break n) n l.Break (before-Break n) (λ r rest. NestsStatement.break))
statement_layer (f.If n bs else_line os m) = subst StatementNests (sym (s.rolls-If n (map bare_branch bs) else_line (map bare os) m))
    (λ r h rest. if_room n bs else_line os m r (fits-If n (map bare_branch bs) else_line (map bare os) m r ∙ h) rest)

statement_nests : (x : Statement) → StatementNests x
statement_nests = ind-Statement StatementNests BranchNests (λ x y is. subst (λ w. StatementNests (roll-Statement w)) is (statement_layer y)) (λ b z is. subst (λ w. BranchNests (roll-Branch w)) is (branch_layer z))

body_nests : (xs : List Statement) (r : ℕ) → all_fit (map statement_fits xs) r ≡ true → (rest : List NumberedLine) → NestsBlock r xs (all_before (map statement_before xs) rest) rest
body_nests [] r h rest = NestsBlock.none
body_nests (x ∷ xs) r h rest =
    let p = and_parts (statement_fits x r) (all_fit (map statement_fits xs) r) h in
    NestsBlock.more (statement_nests x r p.0 (all_before (map statement_before xs) rest)) (body_nests xs r p.1 rest)

skip_nests : (skip : Option ℕ) (rest : List NumberedLine) → NestsSkip skip (skip_before skip rest) rest
skip_nests None rest = NestsSkip.none
skip_nests (Some n) rest = NestsSkip.one

vars_nest : (bs : List Binding) (rest : List NumberedLine) → NestsVars bs (vars_before bs rest) rest
vars_nest [] rest = NestsVars.none
vars_nest (b ∷ bs) rest = NestsVars.more (vars_nest bs rest)

inits_nest : (bs : List Binding) (rest : List NumberedLine) → NestsInits bs (inits_before bs rest) rest
inits_nest [] rest = NestsInits.none
inits_nest (b ∷ bs) rest = NestsInits.more (inits_nest bs rest)

prints_nest : (ps : List PrintLine) → NestsPrints ps (prints_of ps)
prints_nest [] = NestsPrints.none
prints_nest (p ∷ ps) = NestsPrints.more (prints_nest ps)

pub tree_nests : (r : ℕ) (p : ProgramTree) → all_fit (map statement_fits p.body) r ≡ true → Nests (suc r) p (tree_lines p)
tree_nests r p h =
    let behind : List NumberedLine = on p.head.end_line l.End ∷ prints_of p.prints in
    let body : List NumberedLine = all_before (map statement_before p.body) behind in
    let inside : List NumberedLine = inits_before p.scratch body in
    let loop : List NumberedLine = on p.head.line (l.For (heads_of p.head)) ∷ inside in
    Nests.program {n = p.head.line} {m = p.head.end_line} {h = heads_of p.head} (skip_nests p.skip_line (vars_before p.vars loop)) (vars_nest p.vars loop) (inits_nest p.scratch body) (body_nests p.body r h behind)
    (prints_nest p.prints)
