-- What the reader of lines does, line by line. Apart from the grammar, and tied to it in proofs/.
-- Source: this project.
use Rattle.std.specs.Prelude.{ℕ, nat_lt, Some, None, List, [], ◌∷◌, ◌++◌, length, Result, Ok, Err, if◌then◌else◌}
use Rattle.loop_data.specs.declared.value.Value.{Value}
use Rattle.loop_data.specs.declared.expr.Expr.{Expr}
use Rattle.loop_data.specs.declared.statement.Statement.{Statement}
use Rattle.loop_data.specs.declared.statement.Statement.TheVariants as s
use Rattle.loop_data.specs.declared.statement.Branch.{Branch}
use Rattle.loop_data.specs.declared.head.Binding.{Binding}
use Rattle.loop_grammar.specs.declared.line.Line.{Line}
use Rattle.loop_grammar.specs.declared.line.Line.TheVariants as l
use Rattle.loop_grammar.specs.declared.line.Heads.{Heads}
use Rattle.loop_grammar.specs.declared.line.NumberedLine.{NumberedLine}
use Rattle.loop_grammar.specs.declared.tree.ProgramTree.{ProgramTree}
use Rattle.loop_grammar.specs.declared.refusal.SyntaxRefusal.{SyntaxRefusal}
use Rattle.loop_grammar.specs.declared.refusal.SyntaxRefusal.TheVariants.{BadNesting, TooDeep}
use Rattle.loop_grammar.specs.Nesting.{head_line}
use Rattle.loop_nesting.specs.declared.open.Stage.{Stage}
use Rattle.loop_nesting.specs.declared.open.Stage.TheVariants as stage
use Rattle.loop_nesting.specs.declared.open.Preface.{Preface}
use Rattle.loop_nesting.specs.declared.open.LoopFront.{LoopFront}
use Rattle.loop_nesting.specs.declared.open.OpenLoop.{OpenLoop}
use Rattle.loop_nesting.specs.declared.open.OpenIf.{OpenIf}
use Rattle.loop_nesting.specs.declared.open.Opened.{Opened}
use Rattle.loop_nesting.specs.declared.open.Opened.TheVariants as opened

-- what one line more makes of what has been read, or why it is refused
abbrev pub Answer : Type 0
Answer = Result Stage SyntaxRefusal

-- the most `if`s that may be open within one another
abbrev pub most_ifs : ℕ
most_ifs = 15

-- one line more before the loop

-- nothing before the loop
abbrev pub no_preface : Preface
no_preface = record { skip_line = None; vars = [] }

-- one more `var` line
abbrev pub add_var : Preface → Binding → Preface
add_var q b = record q { vars = q.vars ++ b ∷ [] }

-- the loop of the `for` line, before its body
abbrev pub entered : Preface → ℕ → Heads → OpenLoop
entered q n h =
    record {
      front = record { preface = q; line = n; heads = h; scratch = [] };
      ifs = [];
      block = [];
    }

abbrev pub in_vars : Preface → ℕ → Line → Answer
in_vars q n (l.Var name v) =
    Ok (stage.Vars (add_var q (record { line = n; name = name; value = v })))
in_vars q n (l.For h) = Ok (stage.Loop (entered q n h))
in_vars q n _ = Err (BadNesting n)

-- the first line: `on fault skip` may stand there alone
abbrev pub at_start : ℕ → Line → Answer
at_start n l.SkipFaults = Ok (stage.Vars (record { skip_line = Some n; vars = [] }))
at_start n form = in_vars no_preface n form

-- one line more within the loop

-- the loop with these `@init` lines
abbrev pub with_scratch : OpenLoop → List Binding → OpenLoop
with_scratch o scratch = record o { front = record o.front { scratch = scratch } }

-- an `@init` line, with the open `if`s and the block so far
abbrev pub init_at : OpenLoop → ℕ → List ℕ → Value → List OpenIf → List Statement → Answer
init_at o n name v [] [] =
    Ok (stage.Loop (with_scratch o
    (o.front.scratch ++ record { line = n; name = name; value = v } ∷ [])))
init_at o n name v _ _ = Err (BadNesting n)

abbrev pub init : OpenLoop → ℕ → List ℕ → Value → Answer
init o n name v = init_at o n name v o.ifs o.block

-- a statement of one line
abbrev pub put : OpenLoop → Statement → Answer
put o x = Ok (stage.Loop (record o { block = o.block ++ x ∷ [] }))

-- an `if` line, where at most so many `if`s may be open
abbrev pub deeper : ℕ → OpenLoop → ℕ → Expr → Answer
deeper most o n x =
    if nat_lt (length o.ifs) most then
    Ok (stage.Loop (record o {
      ifs = record { before = o.block; line = n; branches = []; opened = opened.Test n x } ∷ o.ifs;
      block = [];
    }))
    else Err (TooDeep n)

-- the condition that opened a block, with its line, where another branch begins on line n
abbrev pub condition : Opened → ℕ → Result (ℕ × Expr) SyntaxRefusal
condition (opened.Test k x) n = Ok (k, x)
condition (opened.Else k) n = Err (BadNesting n)

-- one more branch, whose block is complete
abbrev pub with_branch : List Branch → ℕ → Expr → List Statement → List Branch
with_branch bs k x block = bs ++ record { line = k; test = x; block = block } ∷ []

-- the open `if` where its block is complete and another begins
abbrev pub next_branch : OpenIf → List Statement → Opened → ℕ → Result OpenIf SyntaxRefusal
next_branch f block to n = elim (condition f.opened n) as (λ _. Result OpenIf SyntaxRefusal) [
  | Ok p ↦ Ok (record f { branches = with_branch f.branches p.0 p.1 block; opened = to })
  | Err r ↦ Err r
]

abbrev pub onward : OpenLoop → List OpenIf → Result OpenIf SyntaxRefusal → Answer
onward o fs (Ok f) = Ok (stage.Loop (record o { ifs = f ∷ fs; block = [] }))
onward o fs (Err r) = Err r

-- an `elseif` or `else` line, with the open `if`s
abbrev pub branched : OpenLoop → ℕ → Opened → List OpenIf → Answer
branched o n to [] = Err (BadNesting n)
branched o n to (f ∷ fs) = onward o fs (next_branch f o.block to n)

-- the statement that an `if` on line n is whose last block is complete, with its `end` on line m
abbrev pub if_of : ℕ → List Branch → Opened → List Statement → ℕ → Statement
if_of n bs (opened.Test k x) block m = s.If n (with_branch bs k x block) 0 [] m
if_of n bs (opened.Else k) block m = s.If n bs k block m

abbrev pub whole_if : OpenIf → List Statement → ℕ → Statement
whole_if f block m = if_of f.line f.branches f.opened block m

-- the block around it, up to there
abbrev pub closed : OpenIf → List Statement → ℕ → List Statement
closed f block m = f.before ++ whole_if f block m ∷ []

-- the program of the loop with this body that ends on line m
abbrev pub whole_loop : LoopFront → List Statement → ℕ → ProgramTree
whole_loop f body m =
    record {
      skip_line = f.preface.skip_line;
      vars = f.preface.vars;
      head = head_line f.line f.heads m;
      scratch = f.scratch;
      body = body;
      prints = [];
    }

-- an `end` line, with the open `if`s
abbrev pub ended : OpenLoop → ℕ → List OpenIf → Answer
ended o m [] = Ok (stage.Prints (whole_loop o.front o.block m))
ended o m (f ∷ fs) = Ok (stage.Loop (record o { ifs = fs; block = closed f o.block m }))

abbrev pub in_loop : ℕ → OpenLoop → ℕ → Line → Answer
in_loop most o n (l.Init name v) = init o n name v
in_loop most o n (l.Let names x) = put o (s.Let n names x)
in_loop most o n (l.Set name x) = put o (s.Set n name x)
in_loop most o n (l.Keep name x) = put o (s.Keep n name x)
in_loop most o n (l.Reduce name x start) = put o (s.Reduce n name x start)
in_loop most o n l.Continue = put o (s.Continue n)
in_loop most o n l.Break = put o (s.Break n)
in_loop most o n (l.If x) = deeper most o n x
in_loop most o n (l.ElseIf x) = branched o n (opened.Test n x) o.ifs
in_loop most o n l.Else = branched o n (opened.Else n) o.ifs
in_loop most o n l.End = ended o n o.ifs
in_loop most o n l.SkipFaults = Err (BadNesting n)
in_loop most o n (l.Var name v) = Err (BadNesting n)
in_loop most o n (l.For h) = Err (BadNesting n)
in_loop most o n (l.Print name) = Err (BadNesting n)

-- one line more behind the loop
abbrev pub in_prints : ProgramTree → ℕ → Line → Answer
in_prints p n (l.Print name) =
    Ok (stage.Prints (record p { prints = p.prints ++ record { line = n; name = name } ∷ [] }))
in_prints p n _ = Err (BadNesting n)

-- one line more
abbrev pub step : ℕ → Stage → NumberedLine → Answer
step most stage.Start x = at_start x.line x.form
step most (stage.Vars q) x = in_vars q x.line x.form
step most (stage.Loop o) x = in_loop most o x.line x.form
step most (stage.Prints p) x = in_prints p x.line x.form

-- line after line, up to the first that is refused

abbrev pub run : ℕ → Stage → List NumberedLine → Answer
run most at [] = Ok at
run most at (x ∷ lines) =
    elim (step most at x) as (λ _. Answer) [ Ok b ↦ run most b lines | Err r ↦ Err r ]

-- the same from what the first of them made
abbrev pub run_on : ℕ → List NumberedLine → Answer → Answer
run_on most lines a = elim a as (λ _. Answer) [ Ok b ↦ run most b lines | Err r ↦ Err r ]

-- the program, if the lines may end there; `end` is the line behind the last
abbrev pub finish : ℕ → Answer → Result ProgramTree SyntaxRefusal
finish end (Ok (stage.Prints p)) = Ok p
finish end (Ok _) = Err (BadNesting end)
finish end (Err r) = Err r

-- the whole answer
abbrev pub answer : List NumberedLine → ℕ → Result ProgramTree SyntaxRefusal
answer lines end = finish end (run most_ifs stage.Start lines)
