-- What is read to the end is the lines of that program.
use Rattle.std.proofs.Common.{◌≡◌, ℕ, ◌+◌, ◌≤◌, zero, suc, nat_lt, Bool, true, false, List, [], ◌∷◌, ◌++◌, length, Option, Some, None, Result, Ok, Err, if◌then◌else◌, refl, ap, sym, ◌∙◌, subst, append_assoc, append-nil, arith}
use Rattle.std.proofs.lemmas.Bool.{ltb-true}
use Rattle.loop_data.specs.declared.value.Value.{Value}
use Rattle.loop_data.specs.declared.expr.Expr.{Expr}
use Rattle.loop_data.specs.declared.statement.Statement.{Statement}
use Rattle.loop_data.specs.declared.statement.Statement.TheVariants as s
use Rattle.loop_data.specs.declared.statement.Branch.{Branch}
use Rattle.loop_data.specs.declared.head.Binding.{Binding}
use Rattle.loop_data.specs.declared.head.PrintLine.{PrintLine}
use Rattle.loop_grammar.specs.declared.line.Line.{Line}
use Rattle.loop_grammar.specs.declared.line.Line.TheVariants as l
use Rattle.loop_grammar.specs.declared.line.Heads.{Heads}
use Rattle.loop_grammar.specs.declared.line.NumberedLine.{NumberedLine}
use Rattle.loop_grammar.specs.declared.tree.ProgramTree.{ProgramTree}
use Rattle.loop_grammar.specs.declared.refusal.SyntaxRefusal.{SyntaxRefusal}
use Rattle.loop_grammar.specs.declared.refusal.SyntaxRefusal.TheVariants.{TooDeep}
use Rattle.loop_grammar.specs.Nesting.{on, NestsStatement, NestsBlock, NestsParts, NestsSkip, NestsVars, NestsInits, NestsPrints, Nests}
use Rattle.loop_nesting.specs.declared.open.Stage.{Stage}
use Rattle.loop_nesting.specs.declared.open.Stage.TheVariants as stage
use Rattle.loop_nesting.specs.declared.open.Preface.{Preface}
use Rattle.loop_nesting.specs.declared.open.OpenLoop.{OpenLoop}
use Rattle.loop_nesting.specs.declared.open.OpenIf.{OpenIf}
use Rattle.loop_nesting.specs.declared.open.Opened.{Opened}
use Rattle.loop_nesting.specs.declared.open.Opened.TheVariants as opened
use Rattle.loop_nesting.specs.Reading.{Answer, no_preface, at_start, in_vars, in_loop, in_prints, with_scratch, init_at, deeper, branched, onward, next_branch, ended, closed, whole_if, whole_loop, entered, step, run, run_on}

-- ---- what is still to come

-- with its block complete, the open `if` is the statement x from ls up to rest
abbrev IfEnds : ℕ → OpenIf → List Statement → Statement → List NumberedLine → List NumberedLine → Type 0
IfEnds room f block x ls rest = elim f.opened as (λ _. Type 0) [
  | opened.Test k test ↦ (branches : List Branch) × (else_line : ℕ) × (other : List Statement) × (m : ℕ) × NestsParts room branches else_line other m ls rest ×
      (x ≡ s.If f.line (f.branches ++ record { line = k; test = test; block = block } ∷ branches) else_line other m)
  | opened.Else k ↦ (m : ℕ) × (ls ≡ on m l.End ∷ rest) × (x ≡ s.If f.line f.branches k block m)
]

-- with the innermost block complete, the body is this one from ls up to rest
abbrev Closes : ℕ → List OpenIf → List Statement → List Statement → List NumberedLine → List NumberedLine → Type 0
Closes room [] block body ls rest = (ls ≡ rest) × (block ≡ body)
Closes room (f ∷ fs) block body ls rest =
    (x : Statement) × (us : List NumberedLine) × IfEnds room f block x ls us ×
    (more : List Statement) × (vs : List NumberedLine) × NestsBlock (suc room) more us vs × Closes (suc room) fs ((f.before ++ x ∷ []) ++ more) body vs rest

-- the same with statements that are still to come in the innermost block
abbrev Goes : ℕ → List OpenIf → List Statement → List Statement → List NumberedLine → List NumberedLine → Type 0
Goes room ifs block body ls rest =
    (more : List Statement) × (us : List NumberedLine) × NestsBlock room more ls us × Closes room ifs (block ++ more) body us rest

pub put_goes : (room : ℕ) (ifs : List OpenIf) (block body : List Statement) (x : Statement) (v : NumberedLine) (ls rest : List NumberedLine) → NestsStatement room x (v ∷ ls) ls →
    Goes room ifs (block ++ x ∷ []) body ls rest → Goes room ifs block body (v ∷ ls) rest
put_goes room ifs block body x v ls rest h g =
    let P : List Statement → Type 0 = λ z. Closes room ifs z body g.1 rest in
    (x ∷ g.0, g.1, NestsBlock.more h g.2, subst P (append_assoc block (x ∷ []) g.0) g.3)

-- an open `if` whose block is complete at ls
complete_goes : (room : ℕ) (f : OpenIf) (fs : List OpenIf) (block body : List Statement) (ls rest : List NumberedLine) →
    Closes room (f ∷ fs) block body ls rest → Goes room (f ∷ fs) block body ls rest
complete_goes room f fs block body ls rest h =
    let P : List Statement → Type 0 = λ z. Closes room (f ∷ fs) z body ls rest in ([], ls, NestsBlock.none, subst P (sym (append-nil block)) h)

if_goes : (room n : ℕ) (x : Expr) (fs : List OpenIf) (block body : List Statement) (ls rest : List NumberedLine) →
    Goes room (record { before = block; line = n; branches = []; opened = opened.Test n x } ∷ fs) [] body ls rest → Goes (suc room) fs block body (on n (l.If x) ∷ ls) rest
if_goes room n x fs block body ls rest (ys, us, b, (st, vs, (bs, el, other, m, parts, e), zs, ws, b2, a2)) =
    let P : List Statement → Type 0 = λ z. Closes (suc room) fs z body ws rest in
    let Q : Statement → Type 0 = λ z. NestsStatement (suc room) z (on n (l.If x) ∷ ls) vs in
    (st ∷ zs, ws, NestsBlock.more (subst Q (sym e) (NestsStatement.if_ b parts)) b2, subst P (append_assoc block (st ∷ []) zs) a2)

-- an `elseif` line on an open `if`
elseif_goes : (room n k line : ℕ) (x test : Expr) (before : List Statement) (done : List Branch) (fs : List OpenIf) (block body : List Statement) (ls rest : List NumberedLine) →
    Goes room (record { before = before; line = line; branches = done ++ record { line = k; test = test; block = block } ∷ []; opened = opened.Test n x } ∷ fs) [] body ls rest →
    Goes room (record { before = before; line = line; branches = done; opened = opened.Test k test } ∷ fs) block body (on n (l.ElseIf x) ∷ ls) rest
elseif_goes room n k line x test before done fs block body ls rest (ys, us, b, (st, vs, (bs, el, other, m, parts, e), zs, ws, b2, a2)) =
    let whole = ap (λ (z : List Branch). s.If line z el other m) (append_assoc done (record { line = k; test = test; block = block } ∷ []) (record { line = n; test = x; block = ys } ∷ bs)) in
    complete_goes room (record { before = before; line = line; branches = done; opened = opened.Test k test }) fs block body (on n (l.ElseIf x) ∷ ls) rest
    (st, vs, (record { line = n; test = x; block = ys } ∷ bs, el, other, m, NestsParts.elseif b parts, e ∙ whole), zs, ws, b2, a2)

else_goes : (room n k line : ℕ) (test : Expr) (before : List Statement) (done : List Branch) (fs : List OpenIf) (block body : List Statement) (ls rest : List NumberedLine) →
    Goes room (record { before = before; line = line; branches = done ++ record { line = k; test = test; block = block } ∷ []; opened = opened.Else n } ∷ fs) [] body ls rest →
    Goes room (record { before = before; line = line; branches = done; opened = opened.Test k test } ∷ fs) block body (on n l.Else ∷ ls) rest
else_goes room n k line test before done fs block body ls rest (ys, us, b, (st, vs, (m, u, e), zs, ws, b2, a2)) =
    let P : List NumberedLine → Type 0 = λ z. NestsBlock room ys ls z in
    complete_goes room (record { before = before; line = line; branches = done; opened = opened.Test k test }) fs block body (on n l.Else ∷ ls) rest
    (st, vs, ([], n, ys, m, NestsParts.else_ (subst P u b), e), zs, ws, b2, a2)

end_goes : (room m : ℕ) (before : List Statement) (line : ℕ) (done : List Branch) (last : Opened) (fs : List OpenIf) (block body : List Statement) (ls rest : List NumberedLine) →
    Goes (suc room) fs (closed (record { before = before; line = line; branches = done; opened = last }) block m) body ls rest →
    Goes room (record { before = before; line = line; branches = done; opened = last } ∷ fs) block body (on m l.End ∷ ls) rest
end_goes room m before line done (opened.Test k x) fs block body ls rest (zs, ws, b, a) =
    let f : OpenIf = record { before = before; line = line; branches = done; opened = opened.Test k x } in
    complete_goes room f fs block body (on m l.End ∷ ls) rest (whole_if f block m, ls, ([], 0, [], m, NestsParts.end, refl), zs, ws, b, a)
end_goes room m before line done (opened.Else k) fs block body ls rest (zs, ws, b, a) =
    let f : OpenIf = record { before = before; line = line; branches = done; opened = opened.Else k } in
    complete_goes room f fs block body (on m l.End ∷ ls) rest (whole_if f block m, ls, (m, refl, refl), zs, ws, b, a)

-- ---- the loop, and what stands behind it

-- from the lines on, with no `@init` line first, the open loop becomes the program
record RestBody (most : ℕ) (o : OpenLoop) (p : ProgramTree) (ls : List NumberedLine) : Type 0 where
  room : ℕ
  body : List Statement
  m : ℕ
  behind : List NumberedLine
  prints : List PrintLine
  fits : room + length o.ifs ≡ most
  goes : Goes room o.ifs o.block body ls (on m l.End ∷ behind)
  printed : NestsPrints prints behind
  whole : p ≡ record (whole_loop o.front body m) { prints = prints }

abbrev MayInit : List Binding → OpenLoop → Type 0
MayInit [] o = Unit {0}
MayInit (b ∷ bs) o = (o.ifs ≡ []) × (o.block ≡ [])

-- the same with `@init` lines first
record RestLoop (most : ℕ) (o : OpenLoop) (p : ProgramTree) (ls : List NumberedLine) : Type 0 where
  inits : List Binding
  mid : List NumberedLine
  may : MayInit inits o
  nests : NestsInits inits ls mid
  goes_on : RestBody most (with_scratch o (o.front.scratch ++ inits)) p mid

-- the preface with these `var` lines more
abbrev and_vars : Preface → List Binding → Preface
and_vars q more = record q { vars = q.vars ++ more }

record RestVars (most : ℕ) (q : Preface) (p : ProgramTree) (ls : List NumberedLine) : Type 0 where
  more : List Binding
  n : ℕ
  h : Heads
  us : List NumberedLine
  nests : NestsVars more ls (on n (l.For h) ∷ us)
  loop : RestLoop most (entered (and_vars q more) n h) p us

record RestStart (most : ℕ) (p : ProgramTree) (ls : List NumberedLine) : Type 0 where
  skip : Option ℕ
  mid : List NumberedLine
  nests : NestsSkip skip ls mid
  goes_on : RestVars most (record { skip_line = skip; vars = [] }) p mid

abbrev Rest : ℕ → Stage → ProgramTree → List NumberedLine → Type 0
Rest most stage.Start p ls = RestStart most p ls
Rest most (stage.Vars q) p ls = RestVars most q p ls
Rest most (stage.Loop o) p ls = RestLoop most o p ls
Rest most (stage.Prints q) p ls = (prints : List PrintLine) × NestsPrints prints ls × (p ≡ record q { prints = q.prints ++ prints })

from_body : (most : ℕ) (o : OpenLoop) (p : ProgramTree) (ls : List NumberedLine) → RestBody most o p ls → RestLoop most o p ls
from_body most o p ls b =
    let P : List Binding → Type 0 = λ z. RestBody most (with_scratch o z) p ls in
    record { inits = []; mid = ls; may = tt; nests = NestsInits.none; goes_on = subst P (sym (append-nil o.front.scratch)) b }

-- past the first statement no `@init` line comes
abbrev IsStale : OpenLoop → Type 0
IsStale o = o.ifs ≡ [] → o.block ≡ [] → ⊥

to_body_at : (most : ℕ) (o : OpenLoop) (p : ProgramTree) (ls mid : List NumberedLine) (is : List Binding) → IsStale o → MayInit is o → NestsInits is ls mid →
    RestBody most (with_scratch o (o.front.scratch ++ is)) p mid → RestBody most o p ls
to_body_at most o p ls mid [] stale may NestsInits.none b =
    let P : List Binding → Type 0 = λ z. RestBody most (with_scratch o z) p ls in subst P (append-nil o.front.scratch) b
to_body_at most o p ls mid (i ∷ is) stale may h b = absurd (stale may.0 may.1)

to_body : (most : ℕ) (o : OpenLoop) (p : ProgramTree) (ls : List NumberedLine) → IsStale o → RestLoop most o p ls → RestBody most o p ls
to_body most o p ls stale r = to_body_at most o p ls r.mid r.inits stale r.may r.nests r.goes_on

-- no list with one more at its end is empty
pub not_empty : {A : Type 0} (xs : List A) (x : A) → xs ++ x ∷ [] ≡ [] → ⊥
not_empty [] x e = cc
not_empty (y ∷ xs) x e = cc

-- ---- one line back

-- what follows, where a line made a of the stage
abbrev Back : ℕ → Stage → ProgramTree → NumberedLine → List NumberedLine → Answer → Type 0
Back most at p x ls (Ok b) = Rest most b p ls → Rest most at p (x ∷ ls)
Back most at p x ls (Err r) = Unit {0}

abbrev IsFitting : ℕ → Stage → Type 0
IsFitting most (stage.Loop o) = length o.ifs ≤ most
IsFitting most _ = Unit {0}

abbrev AreFitting : ℕ → Answer → Type 0
AreFitting most (Ok b) = IsFitting most b
AreFitting most (Err r) = Unit {0}

put_back : (most : ℕ) (o : OpenLoop) (p : ProgramTree) (st : Statement) (x : NumberedLine) (ls : List NumberedLine) → ((room : ℕ) → NestsStatement room st (x ∷ ls) ls) →
    RestLoop most (record o { block = o.block ++ st ∷ [] }) p ls → RestLoop most o p (x ∷ ls)
put_back most o p st x ls h r =
    let b = to_body most (record o { block = o.block ++ st ∷ [] }) p ls (λ _ e. not_empty o.block st e) r in
    from_body most o p (x ∷ ls) (record {
      room = b.room;
      body = b.body;
      m = b.m;
      behind = b.behind;
      prints = b.prints;
      fits = b.fits;
      goes = put_goes b.room o.ifs o.block b.body st x ls (on b.m l.End ∷ b.behind) (h b.room) b.goes;
      printed = b.printed;
      whole = b.whole;
    })

deeper_back : (most : ℕ) (o : OpenLoop) (p : ProgramTree) (n : ℕ) (x : Expr) (ls : List NumberedLine) → Back most (stage.Loop o) p (on n (l.If x)) ls (deeper most o n x)
deeper_back most o p n x ls =
    let P : Answer → Type 0 = Back most (stage.Loop o) p (on n (l.If x)) ls in
    let f : OpenIf = record { before = o.block; line = n; branches = []; opened = opened.Test n x } in
    elim (nat_lt (length o.ifs) most) as (λ t. P (if t then Ok (stage.Loop (record o { ifs = f ∷ o.ifs; block = [] })) else Err (TooDeep n))) [
      | true ↦ λ r. (let b = to_body most (record o { ifs = f ∷ o.ifs; block = [] }) p ls (λ e _. cc) r in from_body most o p (on n (l.If x) ∷ ls) (record {
        room = suc b.room;
        body = b.body;
        m = b.m;
        behind = b.behind;
        prints = b.prints;
        fits = (let e = b.fits in omega arith);
        goes = if_goes b.room n x o.ifs o.block b.body ls (on b.m l.End ∷ b.behind) b.goes;
        printed = b.printed;
        whole = b.whole;
      }))
      | false ↦ tt
    ]

-- a line that begins another block of the innermost `if`
abbrev NextBack : ℕ → OpenLoop → ProgramTree → NumberedLine → List NumberedLine → List OpenIf → Opened → Type 0
NextBack most o p x ls ifs to = Back most (stage.Loop (record o { ifs = ifs })) p x ls (branched (record o { ifs = ifs }) x.line to ifs)

elseif_back : (most : ℕ) (o : OpenLoop) (p : ProgramTree) (n : ℕ) (x : Expr) (ls : List NumberedLine) (before : List Statement) (line : ℕ) (done : List Branch) (last : Opened) (fs : List OpenIf) →
    NextBack most o p (on n (l.ElseIf x)) ls (record { before = before; line = line; branches = done; opened = last } ∷ fs) (opened.Test n x)
elseif_back most o p n x ls before line done (opened.Else k) fs = tt
elseif_back most o p n x ls before line done (opened.Test k test) fs = λ r.
    (let g : OpenIf = record { before = before; line = line; branches = done ++ record { line = k; test = test; block = o.block } ∷ []; opened = opened.Test n x } in
    let f : OpenIf = record { before = before; line = line; branches = done; opened = opened.Test k test } in
    let b = to_body most (record o { ifs = g ∷ fs; block = [] }) p ls (λ e _. cc) r in from_body most (record o { ifs = f ∷ fs }) p (on n (l.ElseIf x) ∷ ls) (record {
      room = b.room;
      body = b.body;
      m = b.m;
      behind = b.behind;
      prints = b.prints;
      fits = (let e = b.fits in omega arith);
      goes = elseif_goes b.room n k line x test before done fs o.block b.body ls (on b.m l.End ∷ b.behind) b.goes;
      printed = b.printed;
      whole = b.whole;
    }))

else_back : (most : ℕ) (o : OpenLoop) (p : ProgramTree) (n : ℕ) (ls : List NumberedLine) (before : List Statement) (line : ℕ) (done : List Branch) (last : Opened) (fs : List OpenIf) →
    NextBack most o p (on n l.Else) ls (record { before = before; line = line; branches = done; opened = last } ∷ fs) (opened.Else n)
else_back most o p n ls before line done (opened.Else k) fs = tt
else_back most o p n ls before line done (opened.Test k test) fs = λ r.
    (let g : OpenIf = record { before = before; line = line; branches = done ++ record { line = k; test = test; block = o.block } ∷ []; opened = opened.Else n } in
    let f : OpenIf = record { before = before; line = line; branches = done; opened = opened.Test k test } in
    let b = to_body most (record o { ifs = g ∷ fs; block = [] }) p ls (λ e _. cc) r in from_body most (record o { ifs = f ∷ fs }) p (on n l.Else ∷ ls) (record {
      room = b.room;
      body = b.body;
      m = b.m;
      behind = b.behind;
      prints = b.prints;
      fits = (let e = b.fits in omega arith);
      goes = else_goes b.room n k line test before done fs o.block b.body ls (on b.m l.End ∷ b.behind) b.goes;
      printed = b.printed;
      whole = b.whole;
    }))

-- the outer block has one room more
outer_room : (room length most : ℕ) → room + length ≡ most → suc length ≤ most → (r : ℕ) × (room ≡ suc r) × (r + suc length ≡ most)
outer_room zero n most e h = absurd (omega arith)
outer_room (suc r) n most e h = (r, refl, omega arith)

ended_back : (most : ℕ) (o : OpenLoop) (p : ProgramTree) (m : ℕ) (ls : List NumberedLine) (ifs : List OpenIf) → length ifs ≤ most →
    Back most (stage.Loop (record o { ifs = ifs })) p (on m l.End) ls (ended (record o { ifs = ifs }) m ifs)
ended_back most o p m ls [] h = λ (ps, printed, e). (from_body most (record o { ifs = [] }) p (on m l.End ∷ ls) (record {
  room = most;
  body = o.block;
  m = m;
  behind = ls;
  prints = ps;
  fits = omega arith;
  goes = ([], on m l.End ∷ ls, NestsBlock.none, (refl, append-nil o.block));
  printed = printed;
  whole = e;
}))
ended_back most o p m ls (f ∷ fs) h = λ r.
    (let b = to_body most (record o { ifs = fs; block = closed f o.block m }) p ls (λ _ e. not_empty f.before (whole_if f o.block m) e) r in
    let w = outer_room b.room (length fs) most b.fits (omega arith) in
    let P : ℕ → Type 0 = λ z. Goes z fs (closed f o.block m) b.body ls (on b.m l.End ∷ b.behind) in
    from_body most (record o { ifs = f ∷ fs }) p (on m l.End ∷ ls) (record {
      room = w.0;
      body = b.body;
      m = b.m;
      behind = b.behind;
      prints = b.prints;
      fits = (let e = w.2 in omega arith);
      goes = end_goes w.0 m f.before f.line f.branches f.opened fs o.block b.body ls (on b.m l.End ∷ b.behind) (subst P w.1 b.goes);
      printed = b.printed;
      whole = b.whole;
    }))

init_back : (most : ℕ) (o : OpenLoop) (p : ProgramTree) (n : ℕ) (name : List ℕ) (v : Value) (ls : List NumberedLine) (ifs : List OpenIf) (block : List Statement) →
    Back most (stage.Loop (record o { ifs = ifs; block = block })) p (on n (l.Init name v)) ls (init_at (record o { ifs = ifs; block = block }) n name v ifs block)
init_back most o p n name v ls [] [] = λ r.
    (let P : List Binding → Type 0 = λ z. RestBody most (record (with_scratch o z) { ifs = []; block = [] }) p r.mid in
    record {
      inits = record { line = n; name = name; value = v } ∷ r.inits;
      mid = r.mid;
      may = (refl, refl);
      nests = NestsInits.more r.nests;
      goes_on = subst P (append_assoc o.front.scratch (record { line = n; name = name; value = v } ∷ []) r.inits) r.goes_on;
    })
init_back most o p n name v ls [] (x ∷ block) = tt
init_back most o p n name v ls (f ∷ ifs) block = tt

branched_back_elseif : (most : ℕ) (o : OpenLoop) (p : ProgramTree) (n : ℕ) (x : Expr) (ls : List NumberedLine) (ifs : List OpenIf) → NextBack most o p (on n (l.ElseIf x)) ls ifs (opened.Test n x)
branched_back_elseif most o p n x ls [] = tt
branched_back_elseif most o p n x ls (f ∷ fs) = elseif_back most o p n x ls f.before f.line f.branches f.opened fs

branched_back_else : (most : ℕ) (o : OpenLoop) (p : ProgramTree) (n : ℕ) (ls : List NumberedLine) (ifs : List OpenIf) → NextBack most o p (on n l.Else) ls ifs (opened.Else n)
branched_back_else most o p n ls [] = tt
branched_back_else most o p n ls (f ∷ fs) = else_back most o p n ls f.before f.line f.branches f.opened fs

in_loop_back : (most : ℕ) (o : OpenLoop) (p : ProgramTree) (n : ℕ) (form : Line) (ls : List NumberedLine) → length o.ifs ≤ most → Back most (stage.Loop o) p (on n form) ls (in_loop most o n form)
in_loop_back most o p n (l.Let names x) ls h = put_back most o p (s.Let n names x) (on n (l.Let names x)) ls (λ room. NestsStatement.let_)
in_loop_back most o p n (l.Set name x) ls h = put_back most o p (s.Set n name x) (on n (l.Set name x)) ls (λ room. NestsStatement.set)
in_loop_back most o p n (l.Keep name x) ls h = put_back most o p (s.Keep n name x) (on n (l.Keep name x)) ls (λ room. NestsStatement.keep)
in_loop_back most o p n (l.Reduce name x start) ls h = put_back most o p (s.Reduce n name x start) (on n (l.Reduce name x start)) ls (λ room. NestsStatement.reduce)
in_loop_back most o p n l.Continue ls h = put_back most o p (s.Continue n) (on n l.Continue) ls (λ room. NestsStatement.continue)
in_loop_back most o p n l.Break ls h = put_back most o p (s.Break n) (on n l.Break) ls (λ room. NestsStatement.break)
in_loop_back most o p n (l.If x) ls h = deeper_back most o p n x ls
in_loop_back most o p n (l.ElseIf x) ls h = branched_back_elseif most o p n x ls o.ifs
in_loop_back most o p n l.Else ls h = branched_back_else most o p n ls o.ifs
in_loop_back most o p n l.End ls h = ended_back most o p n ls o.ifs h
in_loop_back most o p n (l.Init name v) ls h = init_back most o p n name v ls o.ifs o.block
in_loop_back most o p n l.SkipFaults ls h = tt
in_loop_back most o p n (l.Var name v) ls h = tt
in_loop_back most o p n (l.For heads) ls h = tt
in_loop_back most o p n (l.Print name) ls h = tt

in_vars_back : (most : ℕ) (q : Preface) (p : ProgramTree) (n : ℕ) (form : Line) (ls : List NumberedLine) → Back most (stage.Vars q) p (on n form) ls (in_vars q n form)
in_vars_back most q p n (l.Var name v) ls = λ r.
    (let P : List Binding → Type 0 = λ z. RestLoop most (entered (record q { vars = z }) r.n r.h) p r.us in
    record {
      more = record { line = n; name = name; value = v } ∷ r.more;
      n = r.n;
      h = r.h;
      us = r.us;
      nests = NestsVars.more r.nests;
      loop = subst P (append_assoc q.vars (record { line = n; name = name; value = v } ∷ []) r.more) r.loop;
    })
in_vars_back most q p n (l.For h) ls = λ r.
    (let P : List Binding → Type 0 = λ z. RestLoop most (entered (record q { vars = z }) n h) p ls in
    record { more = []; n = n; h = h; us = ls; nests = NestsVars.none; loop = subst P (sym (append-nil q.vars)) r })
in_vars_back most q p n _ ls = tt

-- a first line that is no `on fault skip`
without_skip : (most n : ℕ) (p : ProgramTree) (form : Line) (ls : List NumberedLine) → RestVars most no_preface p (on n form ∷ ls) → RestStart most p (on n form ∷ ls)
without_skip most n p form ls r = record { skip = None; mid = on n form ∷ ls; nests = NestsSkip.none; goes_on = r }

at_start_back : (most : ℕ) (p : ProgramTree) (n : ℕ) (form : Line) (ls : List NumberedLine) → Back most stage.Start p (on n form) ls (at_start n form)
at_start_back most p n l.SkipFaults ls = λ r. record { skip = Some n; mid = ls; nests = NestsSkip.one; goes_on = r }
at_start_back most p n (l.Var name v) ls = λ r. without_skip most n p (l.Var name v) ls (in_vars_back most no_preface p n (l.Var name v) ls r)
at_start_back most p n (l.For h) ls = λ r. without_skip most n p (l.For h) ls (in_vars_back most no_preface p n (l.For h) ls r)
at_start_back most p n _ ls = tt

in_prints_back : (most : ℕ) (q p : ProgramTree) (n : ℕ) (form : Line) (ls : List NumberedLine) → Back most (stage.Prints q) p (on n form) ls (in_prints q n form)
in_prints_back most q p n (l.Print name) ls = λ (ps, h, e).
    (record { line = n; name = name } ∷ ps, NestsPrints.more h, e ∙ ap (λ (z : List PrintLine). record q { prints = z }) (append_assoc q.prints (record { line = n; name = name } ∷ []) ps))
in_prints_back most q p n _ ls = tt

back : (most : ℕ) (at : Stage) (p : ProgramTree) (x : NumberedLine) (ls : List NumberedLine) → IsFitting most at → Back most at p x ls (step most at x)
back most stage.Start p x ls h = at_start_back most p x.line x.form ls
back most (stage.Vars q) p x ls h = in_vars_back most q p x.line x.form ls
back most (stage.Loop o) p x ls h = in_loop_back most o p x.line x.form ls h
back most (stage.Prints q) p x ls h = in_prints_back most q p x.line x.form ls

-- ---- the open `if`s stay within the room

init_fits : (most : ℕ) (o : OpenLoop) (n : ℕ) (name : List ℕ) (v : Value) (ifs : List OpenIf) (block : List Statement) → length o.ifs ≤ most → AreFitting most (init_at o n name v ifs block)
init_fits most o n name v [] [] h = h
init_fits most o n name v [] (x ∷ block) h = tt
init_fits most o n name v (f ∷ ifs) block h = tt

deeper_fits : (most : ℕ) (o : OpenLoop) (n : ℕ) (f : OpenIf) (t : Bool) → nat_lt (length o.ifs) most ≡ t → AreFitting most (if t then Ok (stage.Loop (record o { ifs = f ∷ o.ifs; block = [] })) else Err (TooDeep n))
deeper_fits most o n f true e = (let h = ltb-true (length o.ifs) most e in omega arith)
deeper_fits most o n f false e = tt

onward_fits : (most : ℕ) (o : OpenLoop) (fs : List OpenIf) (r : Result OpenIf SyntaxRefusal) → suc (length fs) ≤ most → AreFitting most (onward o fs r)
onward_fits most o fs (Ok f) h = omega arith
onward_fits most o fs (Err r) h = tt

branched_fits : (most : ℕ) (o : OpenLoop) (n : ℕ) (to : Opened) (ifs : List OpenIf) → length ifs ≤ most → AreFitting most (branched o n to ifs)
branched_fits most o n to [] h = tt
branched_fits most o n to (f ∷ fs) h = onward_fits most o fs (next_branch f o.block to n) (omega arith)

ended_fits : (most : ℕ) (o : OpenLoop) (m : ℕ) (ifs : List OpenIf) → length ifs ≤ most → AreFitting most (ended o m ifs)
ended_fits most o m [] h = tt
ended_fits most o m (f ∷ fs) h = omega arith

in_loop_fits : (most : ℕ) (o : OpenLoop) (n : ℕ) (form : Line) → length o.ifs ≤ most → AreFitting most (in_loop most o n form)
in_loop_fits most o n (l.If x) h = deeper_fits most o n _ (nat_lt (length o.ifs) most) refl
in_loop_fits most o n (l.ElseIf x) h = branched_fits most o n (opened.Test n x) o.ifs h
in_loop_fits most o n l.Else h = branched_fits most o n (opened.Else n) o.ifs h
in_loop_fits most o n l.End h = ended_fits most o n o.ifs h
in_loop_fits most o n (l.Init name v) h = init_fits most o n name v o.ifs o.block h
in_loop_fits most o n l.SkipFaults h = tt
in_loop_fits most o n (l.Var name v) h = tt
in_loop_fits most o n (l.For heads) h = tt
in_loop_fits most o n (l.Print name) h = tt
in_loop_fits most o n _ h = h

in_vars_fits : (most : ℕ) (q : Preface) (n : ℕ) (form : Line) → AreFitting most (in_vars q n form)
in_vars_fits most q n (l.Var name v) = tt
in_vars_fits most q n (l.For h) = omega arith
in_vars_fits most q n _ = tt

at_start_fits : (most n : ℕ) (form : Line) → AreFitting most (at_start n form)
at_start_fits most n l.SkipFaults = tt
at_start_fits most n form = in_vars_fits most no_preface n form

in_prints_fits : (most : ℕ) (q : ProgramTree) (n : ℕ) (form : Line) → AreFitting most (in_prints q n form)
in_prints_fits most q n (l.Print name) = tt
in_prints_fits most q n _ = tt

fits_step : (most : ℕ) (at : Stage) (x : NumberedLine) → IsFitting most at → AreFitting most (step most at x)
fits_step most stage.Start x h = at_start_fits most x.line x.form
fits_step most (stage.Vars q) x h = in_vars_fits most q x.line x.form
fits_step most (stage.Loop o) x h = in_loop_fits most o x.line x.form h
fits_step most (stage.Prints q) x h = in_prints_fits most q x.line x.form

-- ---- the whole

all_rest : (most : ℕ) (at : Stage) (p : ProgramTree) (ls : List NumberedLine) → IsFitting most at → run most at ls ≡ Ok (stage.Prints p) → Rest most at p ls
all_rest most at p [] h e =
    let P : Stage → Type 0 = λ z. Rest most z p [] in
    let same : stage.Prints p ≡ at = cc in
    subst P same ([], NestsPrints.none, ap (λ (z : List PrintLine). record p { prints = z }) (sym (append-nil p.prints)))
all_rest most at p (x ∷ ls) h e =
    elim (step most at x) as (λ a. Back most at p x ls a → AreFitting most a → run_on most ls a ≡ Ok (stage.Prints p) → Rest most at p (x ∷ ls)) [
      | Ok b ↦ λ k fit same. k (all_rest most b p ls fit same)
      | Err r ↦ λ k fit same. cc
    ] (back most at p x ls h) (fits_step most at x h) e

pub sound : (most : ℕ) (p : ProgramTree) (ls : List NumberedLine) → run most stage.Start ls ≡ Ok (stage.Prints p) → Nests (suc most) p ls
sound most p ls e =
    let t : RestStart most p ls = all_rest most stage.Start p ls tt e in
    let r = t.goes_on in
    let b = r.loop.goes_on in
    let P : ProgramTree → Type 0 = λ z. Nests (suc most) z ls in
    let Q : List NumberedLine → Type 0 = λ z. NestsBlock b.room b.goes.0 r.loop.mid z in
    let R : List Statement → Type 0 = λ z. NestsBlock b.room z r.loop.mid (on b.m l.End ∷ b.behind) in
    let S : ℕ → Type 0 = λ z. NestsBlock z b.body r.loop.mid (on b.m l.End ∷ b.behind) in
    let block : NestsBlock most b.body r.loop.mid (on b.m l.End ∷ b.behind) = subst S (let f = b.fits in omega arith) (subst R b.goes.3.1 (subst Q b.goes.3.0 b.goes.2)) in
    subst P (sym b.whole) (Nests.program t.nests r.nests r.loop.nests block b.printed)
