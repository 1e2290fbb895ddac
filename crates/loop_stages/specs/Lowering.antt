-- The stages to which a program is lowered.
-- Source: this project, after Transducers.jl.
use Rattle.std.specs.Prelude.{ℕ, zero, suc, Bool, true, false, if◌then◌else◌, List, [], ◌∷◌, ◌++◌}
use Rattle.loop_data.specs.declared.expr.Expr.{Expr}
use Rattle.loop_data.specs.declared.head.Inner.{Inner as InnerHead}
use Rattle.loop_data.specs.declared.statement.Statement.{Statement, out-Statement}
use Rattle.loop_data.specs.declared.statement.Branch.{Branch}
use Rattle.loop_data.specs.declared.statement.Statement.TheOpen.{Statement-F, Statement-F as s}
use Rattle.loop_grammar.specs.declared.tree.ProgramTree.{ProgramTree}
use Rattle.loop_stages.specs.Holding.{holds, is_break, is_exit, is_reduce}
use Rattle.chain_stages.specs.declared.stages.Doing.TheVariants.{Bind, Inner, Block, Rest}
use Rattle.chain_stages.specs.declared.stages.Source.TheVariants.{Item, Of}
use Rattle.chain_stages.specs.declared.stages.Stage.{Stage}
use Rattle.chain_stages.specs.declared.stages.Stage.TheVariants.{Map, MapSplat, Filter, KeepSomething, Cat, ReduceIf}
use Rattle.chain_stages.specs.declared.stages.Test.TheVariants as test

-- ---- the stages of a statement before the split statement

abbrev pub is_continue : {A B : Type 0} → Statement-F A B → Bool
is_continue (s.Continue line) = true
is_continue _ = false

abbrev pub is_one_break : {A B : Type 0} → Statement-F A B → Bool
is_one_break (s.Break line) = true
is_one_break _ = false

-- how an `if` is lowered
pub data IfForm : Type 0 where
  continues : Expr → IfForm
  breaks : Expr → IfForm
  any_other : IfForm

-- by the one block that it has: one `continue`, or one `break`
abbrev pub block_form : Expr → List Statement → IfForm
block_form c (x ∷ []) =
    if is_continue (out-Statement x) then continues c
    else (if is_one_break (out-Statement x) then breaks c else any_other)
block_form c _ = any_other

-- one condition with its block, and no `else`
abbrev pub if_form : List Branch → ℕ → List Statement → IfForm
if_form (b ∷ []) zero [] = block_form b.test b.block
if_form _ _ _ = any_other

-- an `if` has the line of its first condition
abbrev pub if_line : ℕ → List Branch → ℕ
if_line line [] = line
if_line line (b ∷ bs) = b.line

-- the stage, where it is wanted
abbrev pub where_holds : Bool → Stage → List Stage
where_holds true stage = stage ∷ []
where_holds false stage = []

abbrev pub if_stages : ℕ → IfForm → Statement → List Stage
if_stages line (continues c) x = Filter line (test.IfNot c) ∷ []
if_stages line (breaks c) x = ReduceIf line (test.If c) ∷ Filter line (test.IfNot c) ∷ []
if_stages line any_other x =
    Map line (Block x) ∷ where_holds (holds is_break x) (ReduceIf line test.Broke)
    ++ where_holds (holds is_exit x) (Filter line test.Going)

abbrev pub let_stages : ℕ → List (List ℕ) → Expr → List Stage
let_stages line (n ∷ []) x = Map line (Bind n x) ∷ []
let_stages line names x = MapSplat line names (Of x) ∷ []

abbrev pub layer_stages : Statement-F Statement Branch → Statement → List Stage
layer_stages (s.Let line names expr) x = let_stages line names expr
layer_stages (s.Set line name expr) x = Map line (Bind name expr) ∷ []
layer_stages (s.If line branches else_line other end_line) x =
    if_stages (if_line line branches) (if_form branches else_line other) x
layer_stages (s.Keep line name expr) x = KeepSomething line name expr ∷ []
layer_stages (s.Continue line) x = Filter line test.Never ∷ []
layer_stages (s.Break line) x = ReduceIf line test.Always ∷ Filter line test.Never ∷ []
layer_stages (s.Reduce line name tower start) x = []

abbrev pub statement_stages : Statement → List Stage
statement_stages x = layer_stages (out-Statement x) x

-- ---- the split statement and the rest of the body

abbrev pub line_at : Statement-F Statement Branch → ℕ
line_at (s.Let line names x) = line
line_at (s.Set line name x) = line
line_at (s.If line branches else_line other end_line) = if_line line branches
line_at (s.Keep line name x) = line
line_at (s.Reduce line name tower start) = line
line_at (s.Continue line) = line
line_at (s.Break line) = line

-- the line of a statement
abbrev pub line_of : Statement → ℕ
line_of x = line_at (out-Statement x)

-- the stages from the split statement on, given its line: all the rest of the body
abbrev pub rest_stages : ℕ → List Statement → List Stage
rest_stages line statements = Map line (Rest statements) ∷ ReduceIf line test.Broke ∷ []

-- The stages of a body, of whose statements at most so many may stand before the split statement, which is the first that is or
-- holds an `@reduce`, or the one after those.
abbrev pub body_stages : ℕ → List Statement → List Stage
body_stages room [] = []
body_stages zero (x ∷ xs) = rest_stages (line_of x) (x ∷ xs)
body_stages (suc room) (x ∷ xs) =
    if holds is_reduce x then rest_stages (line_of x) (x ∷ xs) else statement_stages x ++ body_stages room xs

-- ---- the `for` line

-- the item is bound already where the pattern has one name
abbrev pub pattern_stages : ℕ → List (List ℕ) → List Stage
pattern_stages line (n ∷ []) = []
pattern_stages line names = MapSplat line names Item ∷ []

abbrev pub inner_stages : ℕ → List InnerHead → List Stage
inner_stages line [] = []
inner_stages line (h ∷ hs) = Map line (Inner h.name h.range) ∷ Cat line h.name ∷ inner_stages line hs

-- ---- the program

-- how many statements at most stand before the split statement: the 65th is it at the latest
abbrev pub most_before_split : ℕ
most_before_split = 64

-- the stages of the `for` line, and then those of the body
abbrev pub lowered : ProgramTree → List Stage
lowered program =
    pattern_stages program.head.line program.head.names
    ++ (inner_stages program.head.line program.head.inner ++ body_stages most_before_split program.body)
