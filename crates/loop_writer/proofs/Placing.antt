-- The lines that nest to a program are the lines that are written of it.
use Rattle.std.proofs.Common.{◌≡◌, ◌≢◌, ℕ, ◌+◌, nat_eq, Bool, true, false, List, [], ◌∷◌, ◌++◌, map, flat_map, Option, refl, ap, sym, ◌∙◌, subst, rules, arith, if◌then◌else◌}
use Rattle.std.proofs.lemmas.Bool.Decides.{nat_tests}
use Rattle.loop_data.specs.declared.value.Value.{Value}
use Rattle.loop_data.specs.declared.expr.Expr.{Expr}
use Rattle.loop_data.specs.declared.tower.TowerExpr.{TowerExpr}
use Rattle.loop_data.specs.declared.statement.Statement.{Statement, the_lemmas}
use Rattle.loop_data.specs.declared.statement.Statement.TheVariants as s
use Rattle.loop_data.specs.declared.statement.Branch.{Branch}
use Rattle.loop_data.specs.declared.head.Binding.{Binding}
use Rattle.loop_data.specs.declared.head.PrintLine.{PrintLine}
use Rattle.loop_grammar.specs.declared.line.Line.{Line}
use Rattle.loop_grammar.specs.declared.line.Line.TheVariants as l
use Rattle.loop_grammar.specs.declared.line.NumberedLine.{NumberedLine}
use Rattle.loop_grammar.specs.declared.tree.ProgramTree.{ProgramTree}
use Rattle.loop_grammar.specs.Nesting.{on, NestsStatement, NestsBlock, NestsParts, NestsSkip, NestsVars, NestsInits, NestsPrints, Nests}
use Rattle.loop_writer.specs.Programs.{Placed, placed_at, Lines, all_lines, branches_lines, else_lines, condition, statement_lines, branch_lines, block_lines, skip_lines, var_line, init_line, print_line, placed}

-- a placed line with its number alone
abbrev pub numbered : Placed → NumberedLine
numbered p = on p.line p.form

-- placed lines, before others
abbrev pub lay : List Placed → List NumberedLine → List NumberedLine
lay [] rest = rest
lay (p ∷ ps) rest = numbered p ∷ lay ps rest

pub lay-append : (ps qs : List Placed) (rest : List NumberedLine) → lay (ps ++ qs) rest ≡ lay ps (lay qs rest)
lay-append [] qs rest = refl
lay-append (p ∷ ps) qs rest = ap (λ (xs : List NumberedLine). numbered p ∷ xs) (lay-append ps qs rest)

pub lay-all : (ps : List Placed) → lay ps [] ≡ map numbered ps
lay-all [] = refl
lay-all (p ∷ ps) = ap (λ (xs : List NumberedLine). numbered p ∷ xs) (lay-all ps)

-- no line has the number 0
abbrev pub AllNumbered : List NumberedLine → Type 0
AllNumbered [] = Unit {0}
AllNumbered (x ∷ xs) = (x.line ≢ 0) × AllNumbered xs

-- the lines from the front of `from` up to `rest` are these
pub record Flat (ps : List Placed) (from rest : List NumberedLine) : Type 0 where
  pub same : from ≡ lay ps rest
  pub later : AllNumbered rest

-- ---- what is written of each form

lines-Let : (n : ℕ) (names : List (List ℕ)) (x : Expr) (d : ℕ) → placed_at d n (l.Let names x) ∷ [] ≡ statement_lines (s.Let n names x) d
lines-Let n names x d = search (rules, the_lemmas)

lines-Set : (n : ℕ) (name : List ℕ) (x : Expr) (d : ℕ) → placed_at d n (l.Set name x) ∷ [] ≡ statement_lines (s.Set n name x) d
lines-Set n name x d = search (rules, the_lemmas)

lines-Keep : (n : ℕ) (name : List ℕ) (x : Expr) (d : ℕ) → placed_at d n (l.Keep name x) ∷ [] ≡ statement_lines (s.Keep n name x) d
lines-Keep n name x d = search (rules, the_lemmas)

lines-Reduce : (n : ℕ) (name : List ℕ) (x : TowerExpr) (start : Option Value) (d : ℕ) → placed_at d n (l.Reduce name x start) ∷ [] ≡ statement_lines (s.Reduce n name x start) d
lines-Reduce n name x start d = search (rules, the_lemmas)

pub lines-Continue : (n d : ℕ) → placed_at d n l.Continue ∷ [] ≡ statement_lines (s.Continue n) d
lines-Continue n d = search (rules, the_lemmas)

pub lines-Break : (n d : ℕ) → placed_at d n l.Break ∷ [] ≡ statement_lines (s.Break n) d
lines-Break n d = search (rules, the_lemmas)

pub lines-If : (n : ℕ) (branches : List Branch) (else_line : ℕ) (other : List Statement) (m d : ℕ) →
    branches_lines (map branch_lines branches) d ++ else_lines else_line (map statement_lines other) d ++ placed_at d m l.End ∷ [] ≡ statement_lines (s.If n branches else_line other m) d
lines-If n branches else_line other m d = search (rules, the_lemmas)

lines-Branch : (n : ℕ) (x : Expr) (block : List Statement) (first : Bool) (d : ℕ) →
    placed_at d n (condition first x) ∷ block_lines block (d + 1) ≡ branch_lines (record { line = n; test = x; block = block }) first d
lines-Branch n x block first d = search (rules, the_lemmas)

-- ---- statements

flat_one : (n d : ℕ) (form : Line) (ps : List Placed) (rest : List NumberedLine) → placed_at d n form ∷ [] ≡ ps → AllNumbered (on n form ∷ rest) → Flat ps (on n form ∷ rest) rest
flat_one n d form ps rest same h = subst (λ (qs : List Placed). Flat qs (on n form ∷ rest) rest) same (record { same = refl; later = h.1 })

flat_append : (ps qs : List Placed) (from mid rest : List NumberedLine) → Flat ps from mid → Flat qs mid rest → Flat (ps ++ qs) from rest
flat_append ps qs from mid rest h g = record { same = h.same ∙ ap (lay ps) g.same ∙ sym (lay-append ps qs rest); later = g.later }

-- the lines of the branches behind the first, of the `else` with its block, and of the `end`
abbrev parts_lines : List Branch → ℕ → List Statement → ℕ → Lines
parts_lines branches else_line other m d =
    flat_map (λ b. b false d) (map branch_lines branches) ++ (else_lines else_line (map statement_lines other) d ++ placed_at d m l.End ∷ [])

-- a line that isn't 0 has its `else`
pub else_there : (n : ℕ) (block : List Lines) (d : ℕ) → n ≢ 0 → placed_at d n l.Else ∷ all_lines block (d + 1) ≡ else_lines n block d
else_there n block d h = let no : nat_eq n 0 ≡ false = grind (arith, nat_tests) in ap (λ (t : Bool). if t then [] else placed_at d n l.Else ∷ all_lines block (d + 1)) (sym no)

flat_more : (b c : List Placed) (ends : List Placed) → (b ++ c) ++ ends ≡ b ++ (c ++ ends)
flat_more [] c ends = refl
flat_more (x ∷ b) c ends = ap (λ (ps : List Placed). x ∷ ps) (flat_more b c ends)

mutual
  pub statement_flat : {r : ℕ} {x : Statement} {from rest : List NumberedLine} → NestsStatement r x from rest → (d : ℕ) → AllNumbered from → Flat (statement_lines x d) from rest
  statement_flat (NestsStatement.let_ {n = n} {names = names} {x = x} {rest = rest}) d h = flat_one n d (l.Let names x) _ rest (lines-Let n names x d) h
  statement_flat (NestsStatement.set {n = n} {name = name} {x = x} {rest = rest}) d h = flat_one n d (l.Set name x) _ rest (lines-Set n name x d) h
  statement_flat (NestsStatement.keep {n = n} {name = name} {x = x} {rest = rest}) d h = flat_one n d (l.Keep name x) _ rest (lines-Keep n name x d) h
  statement_flat (NestsStatement.reduce {n = n} {name = name} {x = x} {start = start} {rest = rest}) d h = flat_one n d (l.Reduce name x start) _ rest (lines-Reduce n name x start d) h
  statement_flat (NestsStatement.continue {n = n} {rest = rest}) d h = flat_one n d l.Continue _ rest (lines-Continue n d) h
  statement_flat (NestsStatement.break {n = n} {rest = rest}) d h = flat_one n d l.Break _ rest (lines-Break n d) h
  statement_flat (NestsStatement.if_ {n = n} {m = m} {x = x} {block = block} {branches = branches} {else_line = else_line} {other = other} {ls = ls} {us = us} {rest = rest} b p) d h =
      let i = block_flat b (d + 1) h.1 in
      let j = parts_flat p d i.later in
      let k = flat_append (block_lines block (d + 1)) (parts_lines branches else_line other m d) ls us rest i j in
      let first : List Placed = placed_at d n (l.If x) ∷ block_lines block (d + 1) in
      let more : List Placed = flat_map (λ b. b false d) (map branch_lines branches) in
      let tail : List Placed = else_lines else_line (map statement_lines other) d ++ placed_at d m l.End ∷ [] in
      let P : List Placed → Type 0 = λ ps. Flat ps (on n (l.If x) ∷ ls) rest in
      let Q : List Placed → Type 0 = λ ps. Flat ((ps ++ more) ++ else_lines else_line (map statement_lines other) d ++ placed_at d m l.End ∷ []) (on n (l.If x) ∷ ls) rest in
      let all : Flat (first ++ (more ++ tail)) (on n (l.If x) ∷ ls) rest = record { same = ap (λ (xs : List NumberedLine). on n (l.If x) ∷ xs) k.same; later = k.later } in
      subst P (lines-If n (record { line = n; test = x; block = block } ∷ branches) else_line other m d) (subst Q (lines-Branch n x block true d)
      (subst P (sym (flat_more first more tail) ∙ sym (flat_more (first ++ more) (else_lines else_line (map statement_lines other) d) (placed_at d m l.End ∷ []))) all))

  pub block_flat : {r : ℕ} {xs : List Statement} {from rest : List NumberedLine} → NestsBlock r xs from rest → (d : ℕ) → AllNumbered from → Flat (block_lines xs d) from rest
  block_flat NestsBlock.none d h = record { same = refl; later = h }
  block_flat (NestsBlock.more {x = x} {xs = xs} {ls = ls} {us = us} {rest = rest} p b) d h =
      let i = statement_flat p d h in
      flat_append (statement_lines x d) (block_lines xs d) ls us rest i (block_flat b d i.later)

  pub parts_flat : {r : ℕ} {branches : List Branch} {else_line : ℕ} {other : List Statement} {m : ℕ} {from rest : List NumberedLine} → NestsParts r branches else_line other m from rest → (d : ℕ) →
      AllNumbered from → Flat (parts_lines branches else_line other m d) from rest
  parts_flat (NestsParts.elseif {n = n} {m = m} {x = x} {block = block} {branches = branches} {else_line = else_line} {other = other} {ls = ls} {us = us} {rest = rest} b p) d h =
      let i = block_flat b (d + 1) h.1 in
      let j = parts_flat p d i.later in
      let k = flat_append (block_lines block (d + 1)) (parts_lines branches else_line other m d) ls us rest i j in
      let first : List Placed = placed_at d n (l.ElseIf x) ∷ block_lines block (d + 1) in
      let more : List Placed = flat_map (λ b. b false d) (map branch_lines branches) in
      let tail : List Placed = else_lines else_line (map statement_lines other) d ++ placed_at d m l.End ∷ [] in
      let P : List Placed → Type 0 = λ ps. Flat ps (on n (l.ElseIf x) ∷ ls) rest in
      let Q : List Placed → Type 0 = λ ps. Flat ((ps ++ more) ++ tail) (on n (l.ElseIf x) ∷ ls) rest in
      let all : Flat (first ++ (more ++ tail)) (on n (l.ElseIf x) ∷ ls) rest = record { same = ap (λ (xs : List NumberedLine). on n (l.ElseIf x) ∷ xs) k.same; later = k.later } in
      subst Q (lines-Branch n x block false d) (subst P (sym (flat_more first more tail)) all)
  parts_flat (NestsParts.else_ {n = n} {m = m} {other = other} {ls = ls} {rest = rest} b) d h =
      let i = block_flat b (d + 1) h.1 in
      let ended : Flat (placed_at d m l.End ∷ []) (on m l.End ∷ rest) rest = record { same = refl; later = i.later.1 } in
      let k = flat_append (block_lines other (d + 1)) (placed_at d m l.End ∷ []) ls (on m l.End ∷ rest) rest i ended in
      let P : List Placed → Type 0 = λ ps. Flat (ps ++ placed_at d m l.End ∷ []) (on n l.Else ∷ ls) rest in
      subst P (else_there n (map statement_lines other) d h.0) (record { same = ap (λ (xs : List NumberedLine). on n l.Else ∷ xs) k.same; later = k.later })
  parts_flat (NestsParts.end {m = m} {rest = rest}) d h = record { same = refl; later = h.1 }

-- ---- the whole

skip_flat : {skip : Option ℕ} {from rest : List NumberedLine} → NestsSkip skip from rest → AllNumbered from → Flat (skip_lines skip) from rest
skip_flat NestsSkip.none h = record { same = refl; later = h }
skip_flat NestsSkip.one h = record { same = refl; later = h.1 }

vars_flat : {bs : List Binding} {from rest : List NumberedLine} → NestsVars bs from rest → AllNumbered from → Flat (map var_line bs) from rest
vars_flat NestsVars.none h = record { same = refl; later = h }
vars_flat (NestsVars.more {n = n} {name = name} {v = v} b) h =
    let k = vars_flat b h.1 in
    record { same = ap (λ (xs : List NumberedLine). on n (l.Var name v) ∷ xs) k.same; later = k.later }

inits_flat : {bs : List Binding} {from rest : List NumberedLine} → NestsInits bs from rest → AllNumbered from → Flat (map init_line bs) from rest
inits_flat NestsInits.none h = record { same = refl; later = h }
inits_flat (NestsInits.more {n = n} {name = name} {v = v} b) h =
    let k = inits_flat b h.1 in
    record { same = ap (λ (xs : List NumberedLine). on n (l.Init name v) ∷ xs) k.same; later = k.later }

prints_flat : {ps : List PrintLine} {from : List NumberedLine} → NestsPrints ps from → Flat (map print_line ps) from []
prints_flat NestsPrints.none = record { same = refl; later = tt }
prints_flat (NestsPrints.more {n = n} {name = name} b) =
    let k = prints_flat b in
    record { same = ap (λ (xs : List NumberedLine). on n (l.Print name) ∷ xs) k.same; later = tt }

pub program_flat : {r : ℕ} {p : ProgramTree} {forms : List NumberedLine} → Nests r p forms → AllNumbered forms → forms ≡ map numbered (placed p)
program_flat (Nests.program {n = n} {m = m} {skip = skip} {vars = vars} {scratch = scratch} {h = heads} {body = body} {prints = prints} {ks = ks} {ls = ls} {us = us} {vs = vs} {ws = ws} s a b c e) h =
    let head = placed_at 0 n (l.For heads) in
    let last = placed_at 0 m l.End in
    let front = skip_lines skip ++ map var_line vars in
    let q = skip_flat s h in
    let v = vars_flat a q.later in
    let i = flat_append (skip_lines skip) (map var_line vars) ks ls (on n (l.For heads) ∷ us) q v in
    let for_ : Flat (head ∷ []) (on n (l.For heads) ∷ us) us = record { same = refl; later = i.later.1 } in
    let j = inits_flat b i.later.1 in
    let k = block_flat c 1 j.later in
    let ended : Flat (last ∷ []) (on m l.End ∷ ws) ws = record { same = refl; later = k.later.1 } in
    let o = prints_flat e in
    let one = flat_append front (head ∷ map init_line scratch) ks (on n (l.For heads) ∷ us) vs i (flat_append (head ∷ []) (map init_line scratch) (on n (l.For heads) ∷ us) us vs for_ j) in
    let two = flat_append (front ++ head ∷ map init_line scratch) (block_lines body 1) ks vs (on m l.End ∷ ws) one k in
    let all = flat_append (front ++ head ∷ map init_line scratch ++ block_lines body 1) (last ∷ map print_line prints) ks (on m l.End ∷ ws) [] two
    (flat_append (last ∷ []) (map print_line prints) (on m l.End ∷ ws) ws [] ended o) in
    all.same ∙ lay-all (front ++ head ∷ map init_line scratch ++ block_lines body 1 ++ last ∷ map print_line prints)
