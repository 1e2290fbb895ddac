-- Reading line after line: in two parts, with more room, why a line is refused, and how any front is gone on with.
use Rattle.std.proofs.Common.{◌≡◌, ℕ, ◌+◌, suc, nat_lt, Bool, true, false, List, [], ◌∷◌, ◌++◌, length, Ok, Err, if◌then◌else◌, ◌⊎◌, inl, inr, refl, arith}
use Rattle.std.proofs.lemmas.Bool.{ltb-true, lt-ltb}
use Rattle.loop_data.specs.declared.value.Value.{Value}
use Rattle.loop_data.specs.declared.statement.Statement.{Statement}
use Rattle.loop_grammar.specs.declared.line.Line.{Line}
use Rattle.loop_grammar.specs.declared.line.Line.TheVariants as l
use Rattle.loop_grammar.specs.declared.line.Heads.{Heads}
use Rattle.loop_grammar.specs.declared.line.NumberedLine.{NumberedLine}
use Rattle.loop_grammar.specs.declared.tree.ProgramTree.{ProgramTree}
use Rattle.loop_grammar.specs.declared.refusal.SyntaxRefusal.{SyntaxRefusal}
use Rattle.loop_grammar.specs.declared.refusal.SyntaxRefusal.TheVariants.{BadNesting, TooDeep}
use Rattle.loop_grammar.specs.Nesting.{on}
use Rattle.loop_nesting.specs.declared.open.Stage.{Stage}
use Rattle.loop_nesting.specs.declared.open.Stage.TheVariants as stage
use Rattle.loop_nesting.specs.declared.open.Preface.{Preface}
use Rattle.loop_nesting.specs.declared.open.OpenLoop.{OpenLoop}
use Rattle.loop_nesting.specs.declared.open.OpenIf.{OpenIf}
use Rattle.loop_nesting.specs.declared.open.Opened.{Opened}
use Rattle.loop_nesting.specs.declared.open.Opened.TheVariants as opened
use Rattle.loop_nesting.specs.Reading.{Answer, no_preface, at_start, in_vars, in_loop, in_prints, init_at, deeper, branched, onward, next_branch, ended, closed, whole_loop, entered, step, run, run_on}

-- ---- in two parts

pub run_append : (most : ℕ) (at : Stage) (front rest : List NumberedLine) → run most at (front ++ rest) ≡ run_on most rest (run most at front)
run_append most at [] rest = refl
run_append most at (x ∷ front) rest = elim (step most at x) as (λ a. run_on most (front ++ rest) a ≡ run_on most rest (run_on most front a)) [
  | Ok b ↦ run_append most b front rest
  | Err r ↦ refl
]

-- ---- with more room

chosen : (p q : Bool) (a : Stage) (r : SyntaxRefusal) (at : Stage) → (p ≡ true → q ≡ true) → (if p then Ok a else Err r) ≡ Ok at → (if q then Ok a else Err r) ≡ Ok at
chosen true q a r at h e = elim q as (λ v. (true ≡ true → v ≡ true) → (if v then Ok a else Err r) ≡ Ok at) [ true ↦ λ _. e | false ↦ λ k. (let no = k refl in cc) ] h
chosen false q a r at h e = cc

lt_more : (a most more : ℕ) → nat_lt a most ≡ true → nat_lt a (most + more) ≡ true
lt_more a most more e = lt-ltb a (most + more) (let h = ltb-true a most e in omega arith)

in_loop_more : (most more : ℕ) (o : OpenLoop) (n : ℕ) (form : Line) (b : Stage) → in_loop most o n form ≡ Ok b → in_loop (most + more) o n form ≡ Ok b
in_loop_more most more o n (l.If x) b e = chosen _ _ _ _ b (lt_more (length o.ifs) most more) e
in_loop_more most more o n _ b e = e

step_more : (most more : ℕ) (at : Stage) (x : NumberedLine) (b : Stage) → step most at x ≡ Ok b → step (most + more) at x ≡ Ok b
step_more most more (stage.Loop o) x b e = in_loop_more most more o x.line x.form b e
step_more most more _ x b e = e

pub run_more : (most more : ℕ) (at : Stage) (lines : List NumberedLine) (b : Stage) → run most at lines ≡ Ok b → run (most + more) at lines ≡ Ok b
run_more most more at [] b e = e
run_more most more at (x ∷ lines) b e =
    elim (step most at x) as (λ a. ((c : Stage) → a ≡ Ok c → step (most + more) at x ≡ Ok c) → run_on most lines a ≡ Ok b → run_on (most + more) lines (step (most + more) at x) ≡ Ok b) [
      | Ok c ↦ λ k h. (rw (k c refl) (run_more most more c lines b h))
      | Err r ↦ λ k h. cc
    ] (step_more most more at x) e

-- ---- why a line is refused

-- a line, read with each room, is refused: with no room it could stand there, or with some more it could
abbrev pub Reason : (ℕ → Answer) → ℕ → ℕ → Answer → Type 0
Reason f n most (Ok b) = Unit {0}
Reason f n most (Err r) = ((r ≡ BadNesting n) × ((room : ℕ) (b : Stage) → f room ≡ Ok b → ⊥)) ⊎ ((r ≡ TooDeep n) × (more : ℕ) × (b : Stage) × (f (most + more) ≡ Ok b))

abbrev Plain : ℕ → Answer → Type 0
Plain n (Ok b) = Unit {0}
Plain n (Err r) = r ≡ BadNesting n

plain : (n most : ℕ) (a : Answer) → Plain n a → Reason (λ _. a) n most a
plain n most (Ok b) h = tt
plain n most (Err r) h = inl (h, λ room b e. cc)

plain_init : (o : OpenLoop) (n : ℕ) (name : List ℕ) (v : Value) (ifs : List OpenIf) (block : List Statement) → Plain n (init_at o n name v ifs block)
plain_init o n name v [] [] = tt
plain_init o n name v [] (x ∷ block) = refl
plain_init o n name v (f ∷ ifs) block = refl

plain_onward : (o : OpenLoop) (n : ℕ) (to : Opened) (block : List Statement) (f : OpenIf) (fs : List OpenIf) → Plain n (onward o fs (next_branch f block to n))
plain_onward o n to block f fs = elim f.opened as (λ w. Plain n (onward o fs (next_branch (record f { opened = w }) block to n))) [ opened.Test k x ↦ tt | opened.Else k ↦ refl ]

plain_branched : (o : OpenLoop) (n : ℕ) (to : Opened) (ifs : List OpenIf) → Plain n (branched o n to ifs)
plain_branched o n to [] = refl
plain_branched o n to (f ∷ fs) = plain_onward o n to o.block f fs

plain_ended : (o : OpenLoop) (n : ℕ) (ifs : List OpenIf) → Plain n (ended o n ifs)
plain_ended o n [] = tt
plain_ended o n (f ∷ fs) = tt

-- a test of what is to be counted, with what is true of it at more
deep : (f : ℕ → Answer) (n most more : ℕ) (p : Bool) (a : Stage) → f (most + more) ≡ Ok a → Reason f n most (if p then Ok a else Err (TooDeep n))
deep f n most more true a h = tt
deep f n most more false a h = inr (refl, more, a, h)

at_more : (a most : ℕ) (s : Stage) (r : SyntaxRefusal) → (if nat_lt a (most + suc a) then Ok s else Err r) ≡ Ok s
at_more a most s r = rw (lt-ltb a (most + suc a) (omega arith))

in_loop_why : (most : ℕ) (o : OpenLoop) (n : ℕ) (form : Line) → Reason (λ room. in_loop room o n form) n most (in_loop most o n form)
in_loop_why most o n (l.If x) = deep (λ room. deeper room o n x) n most (suc (length o.ifs)) (nat_lt (length o.ifs) most) _ (at_more (length o.ifs) most _ (TooDeep n))
in_loop_why most o n (l.Init name v) = plain n most (init_at o n name v o.ifs o.block) (plain_init o n name v o.ifs o.block)
in_loop_why most o n (l.ElseIf x) = plain n most (branched o n (opened.Test n x) o.ifs) (plain_branched o n (opened.Test n x) o.ifs)
in_loop_why most o n l.Else = plain n most (branched o n (opened.Else n) o.ifs) (plain_branched o n (opened.Else n) o.ifs)
in_loop_why most o n l.End = plain n most (ended o n o.ifs) (plain_ended o n o.ifs)
in_loop_why most o n l.SkipFaults = plain n most (Err (BadNesting n)) refl
in_loop_why most o n (l.Var name v) = plain n most (Err (BadNesting n)) refl
in_loop_why most o n (l.For h) = plain n most (Err (BadNesting n)) refl
in_loop_why most o n (l.Print name) = plain n most (Err (BadNesting n)) refl
in_loop_why most o n _ = tt

plain_vars : (q : Preface) (n : ℕ) (form : Line) → Plain n (in_vars q n form)
plain_vars q n (l.Var name v) = tt
plain_vars q n (l.For h) = tt
plain_vars q n _ = refl

plain_start : (n : ℕ) (form : Line) → Plain n (at_start n form)
plain_start n l.SkipFaults = tt
plain_start n form = plain_vars no_preface n form

plain_prints : (p : ProgramTree) (n : ℕ) (form : Line) → Plain n (in_prints p n form)
plain_prints p n (l.Print name) = tt
plain_prints p n _ = refl

pub why : (most : ℕ) (at : Stage) (x : NumberedLine) → Reason (λ room. step room at x) x.line most (step most at x)
why most stage.Start x = plain x.line most (at_start x.line x.form) (plain_start x.line x.form)
why most (stage.Vars q) x = plain x.line most (in_vars q x.line x.form) (plain_vars q x.line x.form)
why most (stage.Loop o) x = in_loop_why most o x.line x.form
why most (stage.Prints p) x = plain x.line most (in_prints p x.line x.form) (plain_prints p x.line x.form)

-- ---- any front can be gone on with

abbrev Ends : ℕ → Stage → Type 0
Ends most at = (more : List NumberedLine) × (p : ProgramTree) × (run most at more ≡ Ok (stage.Prints p))

loop_ends : (most : ℕ) (o : OpenLoop) (ifs : List OpenIf) (block : List Statement) → Ends most (stage.Loop (record o { ifs = ifs; block = block }))
loop_ends most o [] block = (on 0 l.End ∷ [], whole_loop o.front block 0, refl)
loop_ends most o (f ∷ fs) block = let e = loop_ends most o fs (closed f block 0) in (on 0 l.End ∷ e.0, e.1, e.2)

abbrev no_heads : Heads
no_heads = record { names = []; axes = []; product = false; inner = [] }

pub ends : (most : ℕ) (at : Stage) → Ends most at
ends most stage.Start = (on 0 (l.For no_heads) ∷ on 0 l.End ∷ [], whole_loop (entered no_preface 0 no_heads).front [] 0, refl)
ends most (stage.Vars q) = (on 0 (l.For no_heads) ∷ on 0 l.End ∷ [], whole_loop (entered q 0 no_heads).front [] 0, refl)
ends most (stage.Loop o) = loop_ends most o o.ifs o.block
ends most (stage.Prints p) = ([], p, refl)
