-- The lines of a program are read to the end, as that program.
use Rattle.std.proofs.Common.{◌≡◌, ℕ, ◌+◌, zero, suc, nat_lt, List, [], ◌∷◌, ◌++◌, length, Option, Ok, Err, if◌then◌else◌, refl, ap, sym, ◌∙◌, append_assoc, append-nil, arith}
use Rattle.std.proofs.lemmas.Bool.{lt-ltb}
use Rattle.loop_data.specs.declared.expr.Expr.{Expr}
use Rattle.loop_data.specs.declared.statement.Statement.{Statement}
use Rattle.loop_data.specs.declared.statement.Statement.TheVariants as s
use Rattle.loop_data.specs.declared.statement.Branch.{Branch}
use Rattle.loop_data.specs.declared.head.Binding.{Binding}
use Rattle.loop_data.specs.declared.head.PrintLine.{PrintLine}
use Rattle.loop_grammar.specs.declared.line.Line.TheVariants as l
use Rattle.loop_grammar.specs.declared.line.Heads.{Heads}
use Rattle.loop_grammar.specs.declared.line.NumberedLine.{NumberedLine}
use Rattle.loop_grammar.specs.declared.tree.ProgramTree.{ProgramTree}
use Rattle.loop_grammar.specs.declared.refusal.SyntaxRefusal.{SyntaxRefusal}
use Rattle.loop_grammar.specs.declared.refusal.SyntaxRefusal.TheVariants.{TooDeep}
use Rattle.loop_grammar.specs.Nesting.{on, NestsStatement, NestsBlock, NestsParts, NestsSkip, NestsVars, NestsInits, NestsPrints, Nests}
use Rattle.loop_nesting.specs.declared.open.Stage.{Stage}
use Rattle.loop_nesting.specs.declared.open.Stage.TheVariants as stage
use Rattle.loop_nesting.specs.declared.open.Preface.{Preface}
use Rattle.loop_nesting.specs.declared.open.OpenLoop.{OpenLoop}
use Rattle.loop_nesting.specs.declared.open.OpenIf.{OpenIf}
use Rattle.loop_nesting.specs.declared.open.Opened.TheVariants as opened
use Rattle.loop_nesting.specs.Reading.{add_var, entered, with_scratch, whole_loop, run, run_on}

-- the loop with these open `if`s and this block
abbrev here : OpenLoop → List OpenIf → List Statement → Stage
here o ifs block = stage.Loop (record o { ifs = ifs; block = block })

-- an `if` whose block was opened by a test
abbrev testing : List Statement → ℕ → List Branch → ℕ → Expr → OpenIf
testing before n branches k x = record { before = before; line = n; branches = branches; opened = opened.Test k x }

abbrev branch : ℕ → Expr → List Statement → Branch
branch k x block = record { line = k; test = x; block = block }

has_room : (room most : ℕ) (a : ℕ) (at : Stage) (r : SyntaxRefusal) (ls : List NumberedLine) → suc room + a ≡ most → run_on most ls (if nat_lt a most then Ok at else Err r) ≡ run most at ls
has_room room most a at r ls e = ap (λ t. run_on most ls (if t then Ok at else Err r)) (lt-ltb a most (omega arith))

mutual
  read_statement : {r : ℕ} {x : Statement} {ls rest : List NumberedLine} → NestsStatement r x ls rest → (most : ℕ) (o : OpenLoop) (ifs : List OpenIf) (block : List Statement) → r + length ifs ≡ most →
      run most (here o ifs block) ls ≡ run most (here o ifs (block ++ x ∷ [])) rest
  read_statement NestsStatement.let_ most o ifs block e = refl
  read_statement NestsStatement.set most o ifs block e = refl
  read_statement NestsStatement.keep most o ifs block e = refl
  read_statement NestsStatement.reduce most o ifs block e = refl
  read_statement NestsStatement.continue most o ifs block e = refl
  read_statement NestsStatement.break most o ifs block e = refl
  read_statement (NestsStatement.if_ {r = r} {n = n} {x = x} {block = inner} {ls = ls} b p) most o ifs block e =
      has_room r most (length ifs) (here o (testing block n [] n x ∷ ifs) []) (TooDeep n) ls e ∙ read_block b most o (testing block n [] n x ∷ ifs) [] (omega arith)
      ∙ read_parts p most o ifs block n [] n x inner (omega arith)

  read_block : {r : ℕ} {xs : List Statement} {ls rest : List NumberedLine} → NestsBlock r xs ls rest → (most : ℕ) (o : OpenLoop) (ifs : List OpenIf) (block : List Statement) → r + length ifs ≡ most →
      run most (here o ifs block) ls ≡ run most (here o ifs (block ++ xs)) rest
  read_block (NestsBlock.none {rest = rest}) most o ifs block e = ap (λ z. run most (here o ifs z) rest) (sym (append-nil block))
  read_block (NestsBlock.more {x = x} {xs = xs} {rest = rest} h b) most o ifs block e =
      read_statement h most o ifs block e ∙ read_block b most o ifs (block ++ x ∷ []) e ∙ ap (λ z. run most (here o ifs z) rest) (append_assoc block (x ∷ []) xs)

  read_parts : {r m else_line : ℕ} {branches : List Branch} {other : List Statement} {ls rest : List NumberedLine} → NestsParts r branches else_line other m ls rest →
      (most : ℕ) (o : OpenLoop) (ifs : List OpenIf) (before : List Statement) (n : ℕ) (done : List Branch) (k : ℕ) (x : Expr) (block : List Statement) → suc r + length ifs ≡ most →
      run most (here o (testing before n done k x ∷ ifs) block) ls ≡ run most (here o ifs (before ++ s.If n (done ++ branch k x block ∷ branches) else_line other m ∷ [])) rest
  read_parts (NestsParts.elseif {n = j} {m = m} {x = y} {block = inner} {branches = branches} {else_line = el} {other = other} {rest = rest} b p) most o ifs before n done k x block e =
      read_block b most o (testing before n (done ++ branch k x block ∷ []) j y ∷ ifs) [] (omega arith)
      ∙ read_parts p most o ifs before n (done ++ branch k x block ∷ []) j y inner e
      ∙ ap (λ z. run most (here o ifs (before ++ s.If n z el other m ∷ [])) rest) (append_assoc done (branch k x block ∷ []) (branch j y inner ∷ branches))
  read_parts (NestsParts.else_ {n = j} b) most o ifs before n done k x block e =
      read_block b most o (record { before = before; line = n; branches = done ++ branch k x block ∷ []; opened = opened.Else j } ∷ ifs) [] (omega arith)
  read_parts NestsParts.end most o ifs before n done k x block e = refl

read_vars : {bs : List Binding} {ls rest : List NumberedLine} → NestsVars bs ls rest → (most : ℕ) (q : Preface) →
    run most (stage.Vars q) ls ≡ run most (stage.Vars (record q { vars = q.vars ++ bs })) rest
read_vars (NestsVars.none {rest = rest}) most q = ap (λ z. run most (stage.Vars (record q { vars = z })) rest) (sym (append-nil q.vars))
read_vars (NestsVars.more {n = n} {name = name} {v = v} {bs = bs} {rest = rest} b) most q =
    read_vars b most (add_var q (record { line = n; name = name; value = v }))
    ∙ ap (λ z. run most (stage.Vars (record q { vars = z })) rest) (append_assoc q.vars (record { line = n; name = name; value = v } ∷ []) bs)

-- the line `on fault skip`, where it stands, is read
read_skip : {skip : Option ℕ} {n : ℕ} {h : Heads} {bs : List Binding} {ks ls us : List NumberedLine} → NestsSkip skip ks ls → NestsVars bs ls (on n (l.For h) ∷ us) →
    (most : ℕ) → run most stage.Start ks ≡ run most (stage.Vars (record { skip_line = skip; vars = [] })) ls
read_skip NestsSkip.one a most = refl
read_skip NestsSkip.none NestsVars.none most = refl
read_skip NestsSkip.none (NestsVars.more b) most = refl

-- the loop before the first statement of its body
abbrev fresh : OpenLoop → List Binding → Stage
fresh o scratch = stage.Loop (record (with_scratch o scratch) { ifs = []; block = [] })

read_inits : {bs : List Binding} {ls rest : List NumberedLine} → NestsInits bs ls rest → (most : ℕ) (o : OpenLoop) (scratch : List Binding) → run most (fresh o scratch) ls ≡ run most (fresh o (scratch ++ bs)) rest
read_inits (NestsInits.none {rest = rest}) most o scratch = ap (λ z. run most (fresh o z) rest) (sym (append-nil scratch))
read_inits (NestsInits.more {n = n} {name = name} {v = v} {bs = bs} {rest = rest} b) most o scratch =
    read_inits b most o (scratch ++ record { line = n; name = name; value = v } ∷ []) ∙ ap (λ z. run most (fresh o z) rest) (append_assoc scratch (record { line = n; name = name; value = v } ∷ []) bs)

read_prints : {ps : List PrintLine} {ls : List NumberedLine} → NestsPrints ps ls → (most : ℕ) (p : ProgramTree) → run most (stage.Prints p) ls ≡ Ok (stage.Prints (record p { prints = p.prints ++ ps }))
read_prints NestsPrints.none most p = ap (λ z. Ok (stage.Prints (record p { prints = z }))) (sym (append-nil p.prints))
read_prints (NestsPrints.more {n = n} {name = name} {ps = ps} h) most p =
    read_prints h most (record p { prints = p.prints ++ record { line = n; name = name } ∷ [] }) ∙ ap (λ z. Ok (stage.Prints (record p { prints = z }))) (append_assoc p.prints (record { line = n; name = name } ∷ []) ps)

-- the whole, where the loop's block is one of the room
abbrev pub ReadsIn : ℕ → ProgramTree → List NumberedLine → Type 0
ReadsIn zero p ls = ⊥
ReadsIn (suc most) p ls = run most stage.Start ls ≡ Ok (stage.Prints p)

pub complete : {room : ℕ} {p : ProgramTree} {ls : List NumberedLine} → Nests room p ls → ReadsIn room p ls
complete (Nests.program {r = r} {n = n} {m = m} {skip = skip} {vars = vars} {scratch = scratch} {h = h} {body = body} k a i b p) =
    let q : Preface = record { skip_line = skip; vars = vars } in
    let o : OpenLoop = with_scratch (entered q n h) scratch in
    read_skip k a r ∙ read_vars a r (record { skip_line = skip; vars = [] }) ∙ read_inits i r (entered q n h) [] ∙ read_block b r o [] [] (omega arith)
    ∙ read_prints p r (whole_loop o.front body m)
