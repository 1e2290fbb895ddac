-- How the lines of a loop file nest to a program, and the first line that breaks the nesting.
-- Source: this project's language.
use Rattle.std.specs.Prelude.{◌≡◌, ℕ, suc, List, [], ◌∷◌, ◌++◌, Option, Some, None}
use Rattle.loop_data.specs.declared.value.Value.{Value}
use Rattle.loop_data.specs.declared.expr.Expr.{Expr}
use Rattle.loop_data.specs.declared.tower.TowerExpr.{TowerExpr}
use Rattle.loop_data.specs.declared.statement.Statement.{Statement}
use Rattle.loop_data.specs.declared.statement.Statement.TheVariants as s
use Rattle.loop_data.specs.declared.statement.Branch.{Branch}
use Rattle.loop_data.specs.declared.head.Binding.{Binding}
use Rattle.loop_data.specs.declared.head.HeadLine.{HeadLine}
use Rattle.loop_data.specs.declared.head.PrintLine.{PrintLine}
use Rattle.loop_grammar.specs.declared.line.Line.{Line}
use Rattle.loop_grammar.specs.declared.line.Line.TheVariants as l
use Rattle.loop_grammar.specs.declared.line.Heads.{Heads}
use Rattle.loop_grammar.specs.declared.line.NumberedLine.{NumberedLine}
use Rattle.loop_grammar.specs.declared.tree.ProgramTree.{ProgramTree}
use Rattle.loop_grammar.specs.declared.refusal.SyntaxRefusal.{SyntaxRefusal}
use Rattle.loop_grammar.specs.declared.refusal.SyntaxRefusal.TheVariants as refusal

-- a line with its number
abbrev pub on : ℕ → Line → NumberedLine
on n form = record { line = n; form = form }

mutual
  -- NestsStatement room s from rest: from the front of `from` up to `rest` the lines are the statement s, which opens at most
  -- `room` blocks within one another.
  pub data NestsStatement : ℕ → Statement → List NumberedLine → List NumberedLine → Type 0 where
    let_ : {r n : ℕ} {names : List (List ℕ)} {x : Expr} {rest : List NumberedLine} →
        NestsStatement r (s.Let n names x) (on n (l.Let names x) ∷ rest) rest
    set : {r n : ℕ} {name : List ℕ} {x : Expr} {rest : List NumberedLine} →
        NestsStatement r (s.Set n name x) (on n (l.Set name x) ∷ rest) rest
    keep : {r n : ℕ} {name : List ℕ} {x : Expr} {rest : List NumberedLine} →
        NestsStatement r (s.Keep n name x) (on n (l.Keep name x) ∷ rest) rest
    reduce : {r n : ℕ} {name : List ℕ} {x : TowerExpr} {start : Option Value} {rest : List NumberedLine} →
        NestsStatement r (s.Reduce n name x start) (on n (l.Reduce name x start) ∷ rest) rest
    continue : {r n : ℕ} {rest : List NumberedLine} → NestsStatement r (s.Continue n) (on n l.Continue ∷ rest) rest
    break : {r n : ℕ} {rest : List NumberedLine} → NestsStatement r (s.Break n) (on n l.Break ∷ rest) rest
    if_ : {r n m : ℕ} {x : Expr} {block : List Statement} {branches : List Branch} {else_line : ℕ} {other : List Statement}
        {ls us rest : List NumberedLine} →
        NestsBlock r block ls us → NestsParts r branches else_line other m us rest →
        NestsStatement (suc r) (s.If n (record { line = n; test = x; block = block } ∷ branches) else_line other m)
        (on n (l.If x) ∷ ls) rest

  -- the same for a block: any number of statements
  pub data NestsBlock : ℕ → List Statement → List NumberedLine → List NumberedLine → Type 0 where
    none : {r : ℕ} {rest : List NumberedLine} → NestsBlock r [] rest rest
    more : {r : ℕ} {x : Statement} {xs : List Statement} {ls us rest : List NumberedLine} →
        NestsStatement r x ls us → NestsBlock r xs us rest → NestsBlock r (x ∷ xs) ls rest

  -- what follows the block of an `if` or `elseif` line, with its `end` on line m: further branches, and the block of `else`;
  -- where there is none, its line is 0
  pub data NestsParts : ℕ → List Branch → ℕ → List Statement → ℕ → List NumberedLine → List NumberedLine → Type 0 where
    elseif : {r n m : ℕ} {x : Expr} {block : List Statement} {branches : List Branch} {else_line : ℕ} {other : List Statement}
        {ls us rest : List NumberedLine} →
        NestsBlock r block ls us → NestsParts r branches else_line other m us rest →
        NestsParts r (record { line = n; test = x; block = block } ∷ branches) else_line other m (on n (l.ElseIf x) ∷ ls) rest
    else_ : {r n m : ℕ} {other : List Statement} {ls rest : List NumberedLine} → NestsBlock r other ls (on m l.End ∷ rest) →
        NestsParts r [] n other m (on n l.Else ∷ ls) rest
    end : {r m : ℕ} {rest : List NumberedLine} → NestsParts r [] 0 [] m (on m l.End ∷ rest) rest

-- at most one line `on fault skip`, and its number
pub data NestsSkip : Option ℕ → List NumberedLine → List NumberedLine → Type 0 where
  none : {rest : List NumberedLine} → NestsSkip None rest rest
  one : {n : ℕ} {rest : List NumberedLine} → NestsSkip (Some n) (on n l.SkipFaults ∷ rest) rest

-- any number of `var` lines
pub data NestsVars : List Binding → List NumberedLine → List NumberedLine → Type 0 where
  none : {rest : List NumberedLine} → NestsVars [] rest rest
  more : {n : ℕ} {name : List ℕ} {v : Value} {bs : List Binding} {ls rest : List NumberedLine} → NestsVars bs ls rest →
      NestsVars (record { line = n; name = name; value = v } ∷ bs) (on n (l.Var name v) ∷ ls) rest

-- any number of `@init` lines
pub data NestsInits : List Binding → List NumberedLine → List NumberedLine → Type 0 where
  none : {rest : List NumberedLine} → NestsInits [] rest rest
  more : {n : ℕ} {name : List ℕ} {v : Value} {bs : List Binding} {ls rest : List NumberedLine} → NestsInits bs ls rest →
      NestsInits (record { line = n; name = name; value = v } ∷ bs) (on n (l.Init name v) ∷ ls) rest

-- any number of `print` lines, up to the end
pub data NestsPrints : List PrintLine → List NumberedLine → Type 0 where
  none : NestsPrints [] []
  more : {n : ℕ} {name : List ℕ} {ps : List PrintLine} {ls : List NumberedLine} → NestsPrints ps ls →
      NestsPrints (record { line = n; name = name } ∷ ps) (on n (l.Print name) ∷ ls)

-- the `for` line on line n whose loop ends on line m
abbrev pub head_line : ℕ → Heads → ℕ → HeadLine
head_line n h m = record { line = n; names = h.names; axes = h.axes; product = h.product; inner = h.inner; end_line = m }

-- Nests room program lines: the lines are the program, and at most `room` blocks are open within one another, the loop's being
-- the first.
pub data Nests : ℕ → ProgramTree → List NumberedLine → Type 0 where
  program : {r n m : ℕ} {skip : Option ℕ} {vars scratch : List Binding} {h : Heads} {body : List Statement}
      {prints : List PrintLine} {ks ls us vs ws : List NumberedLine} →
      NestsSkip skip ks ls → NestsVars vars ls (on n (l.For h) ∷ us) → NestsInits scratch us vs →
      NestsBlock r body vs (on m l.End ∷ ws) → NestsPrints prints ws →
      Nests (suc r) (record {
        skip_line = skip;
        vars = vars;
        head = head_line n h m;
        scratch = scratch;
        body = body;
        prints = prints;
      }) ks

-- the most blocks that may be open
abbrev pub most_blocks : ℕ
most_blocks = 16

-- lines that can be gone on with to a program
abbrev pub IsViable : ℕ → List NumberedLine → Type 0
IsViable room front = (more : List NumberedLine) × (program : ProgramTree) × Nests room program (front ++ more)

-- IsFirstBad lines front bad: `bad` is the rest of the lines from the first on that breaks the nesting or opens one block too
-- many, and `front` what stands before it; `bad` is empty where the lines end too early.
pub record IsFirstBad (lines front bad : List NumberedLine) : Type 0 where
  pub whole : lines ≡ front ++ bad
  pub viable : IsViable most_blocks front
  pub breaks : (x : NumberedLine) (more : List NumberedLine) → bad ≡ x ∷ more → IsViable most_blocks (front ++ x ∷ []) → ⊥
  pub early : bad ≡ [] → (program : ProgramTree) → Nests most_blocks program lines → ⊥

-- NestingRefusal lines end r: the lines are no program, and r says why; `end` is the number of the line behind the last. A line
-- that could stand there if more blocks might be open opens one too many.
pub data NestingRefusal : List NumberedLine → ℕ → SyntaxRefusal → Type 0 where
  early : {lines : List NumberedLine} {end : ℕ} → IsFirstBad lines lines [] → NestingRefusal lines end (refusal.BadNesting end)
  bad : {lines front more : List NumberedLine} {x : NumberedLine} {end : ℕ} → IsFirstBad lines front (x ∷ more) →
      ((room : ℕ) → IsViable room (front ++ x ∷ []) → ⊥) → NestingRefusal lines end (refusal.BadNesting x.line)
  deep : {lines front more : List NumberedLine} {x : NumberedLine} {end room : ℕ} → IsFirstBad lines front (x ∷ more) →
      IsViable room (front ++ x ∷ []) → NestingRefusal lines end (refusal.TooDeep x.line)
