-- In the chain to which a program is lowered each `Cat` stands right after the stage that sets its range.
use Rattle.std.proofs.Common.{◌≡◌, ℕ, zero, suc, Bool, true, false, List, [], ◌∷◌, ◌++◌, refl}
use Rattle.std.specs.Prelude.{if◌then◌else◌}
use Rattle.loop_data.specs.declared.expr.Expr.{Expr}
use Rattle.loop_data.specs.declared.head.Inner.{Inner as InnerHead}
use Rattle.loop_data.specs.declared.statement.Statement.{Statement, out-Statement}
use Rattle.loop_data.specs.declared.statement.Branch.{Branch}
use Rattle.loop_data.specs.declared.statement.Statement.TheOpen.{Statement-F, Statement-F as s}
use Rattle.loop_grammar.specs.declared.tree.ProgramTree.{ProgramTree}
use Rattle.chain_stages.specs.declared.stages.Stage.{Stage}
use Rattle.chain_stages.specs.declared.stages.Stage.TheVariants.{Filter, ReduceIf}
use Rattle.chain_stages.specs.declared.stages.Test.TheVariants as test
use Rattle.chain_stages.specs.Cats.{cats_follow}
use Rattle.loop_stages.specs.Holding.{holds, is_break, is_exit, is_reduce}
use Rattle.loop_stages.specs.Lowering.{IfForm, any_other, body_stages, breaks, continues, if_form, if_line, if_stages, inner_stages, layer_stages, let_stages, line_of, lowered, pattern_stages, rest_stages, statement_stages, where_holds}

-- whatever stands before them
abbrev Follow : List Stage → Type 0
Follow stages = (entered : Bool) → cats_follow entered stages ≡ true

abbrev Keeps : List Stage → Type 0
Keeps stages = (rest : List Stage) → Follow rest → Follow (stages ++ rest)

let_keeps : (line : ℕ) (ns : List (List ℕ)) (x : Expr) → Keeps (let_stages line ns x)
let_keeps line [] x rest h entered = h false
let_keeps line (n ∷ []) x rest h entered = h false
let_keeps line (n ∷ m ∷ ms) x rest h entered = h false

block_keeps : (line : ℕ) (b c : Bool) (rest : List Stage) → Follow rest → Follow ((where_holds b (ReduceIf line test.Broke) ++ where_holds c (Filter line test.Going)) ++ rest)
block_keeps line true true rest h entered = h false
block_keeps line true false rest h entered = h false
block_keeps line false true rest h entered = h false
block_keeps line false false rest h entered = h entered

if_keeps : (line : ℕ) (form : IfForm) (x : Statement) → Keeps (if_stages line form x)
if_keeps line (continues c) x rest h entered = h false
if_keeps line (breaks c) x rest h entered = h false
if_keeps line any_other x rest h entered = block_keeps line (holds is_break x) (holds is_exit x) rest h false

layer_keeps : (w : Statement-F Statement Branch) (x : Statement) → Keeps (layer_stages w x)
layer_keeps (s.Let line ns e) x = let_keeps line ns e
layer_keeps (s.Set line n e) x = λ rest h entered. h false
layer_keeps (s.If line bs el other end_line) x = if_keeps (if_line line bs) (if_form bs el other) x
layer_keeps (s.Keep line n e) x = λ rest h entered. h false
layer_keeps (s.Continue line) x = λ rest h entered. h false
layer_keeps (s.Break line) x = λ rest h entered. h false
layer_keeps (s.Reduce line n t st) x = λ rest h entered. h entered

statement_keeps : (x : Statement) → Keeps (statement_stages x)
statement_keeps x = layer_keeps (out-Statement x) x

rest_follows : (line : ℕ) (xs : List Statement) → Follow (rest_stages line xs)
rest_follows line xs entered = refl

chosen_follows : (b : Bool) (line : ℕ) (all : List Statement) (x : Statement) (later : List Stage) → Follow later → Follow (if b then rest_stages line all else statement_stages x ++ later)
chosen_follows true line all x later h = rest_follows line all
chosen_follows false line all x later h = statement_keeps x later h

body_follows : (room : ℕ) (body : List Statement) → Follow (body_stages room body)
body_follows room [] = λ entered. refl
body_follows zero (x ∷ xs) = rest_follows (line_of x) (x ∷ xs)
body_follows (suc room) (x ∷ xs) = chosen_follows (holds is_reduce x) (line_of x) (x ∷ xs) x (body_stages room xs) (body_follows room xs)

inner_follows : (line : ℕ) (hs : List InnerHead) (later : List Stage) → Follow later → Follow (inner_stages line hs ++ later)
inner_follows line [] later h = h
inner_follows line (head ∷ hs) later h = λ entered. inner_follows line hs later h false

pattern_follows : (line : ℕ) (ns : List (List ℕ)) (later : List Stage) → Follow later → Follow (pattern_stages line ns ++ later)
pattern_follows line [] later h = λ entered. h false
pattern_follows line (n ∷ []) later h = h
pattern_follows line (n ∷ m ∷ ms) later h = λ entered. h false

pub lowered_follows : (program : ProgramTree) → cats_follow false (lowered program) ≡ true
lowered_follows program =
    pattern_follows program.head.line program.head.names (inner_stages program.head.line program.head.inner ++ body_stages 64 program.body)
    (inner_follows program.head.line program.head.inner (body_stages 64 program.body) (body_follows 64 program.body)) false
