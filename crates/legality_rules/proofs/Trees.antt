-- Parts of small programs.
use Rattle.std.proofs.Common.{ℕ, Bool, List, [], ◌∷◌, Option, Some, None, pos, true, false}
use Rattle.loop_data.specs.declared.value.Value.{Value}
use Rattle.loop_data.specs.declared.value.Value.TheVariants as value
use Rattle.loop_data.specs.declared.expr.Expr.{Expr}
use Rattle.loop_data.specs.declared.expr.Expr.TheVariants as e
use Rattle.loop_data.specs.declared.expr.RangeExpr.{RangeExpr}
use Rattle.loop_data.specs.declared.head.Axis.{Axis}
use Rattle.loop_data.specs.declared.head.Binding.{Binding}
use Rattle.loop_data.specs.declared.head.HeadLine.{HeadLine}
use Rattle.loop_data.specs.declared.head.Inner.{Inner}
use Rattle.loop_data.specs.declared.head.PrintLine.{PrintLine}
use Rattle.loop_data.specs.declared.statement.Statement.{Statement}
use Rattle.loop_data.specs.declared.statement.Branch.{Branch}
use Rattle.loop_grammar.specs.declared.tree.ProgramTree.{ProgramTree}
use Rattle.legality_rules.specs.declared.refusal.Offence.{Offence}

abbrev pub int : ℕ → Expr
int n = e.Lit (value.Int (pos n))

abbrev pub from_to : Expr → Expr → RangeExpr
from_to first last = record { first = first; step = None; last = last }

abbrev pub from_by_to : Expr → Expr → Expr → RangeExpr
from_by_to first step last = record { first = first; step = Some step; last = last }

abbrev pub binding : ℕ → List ℕ → Value → Binding
binding line name v = record { line = line; name = name; value = v }

-- the line of `end` is no matter
abbrev pub head_of : ℕ → List (List ℕ) → List Axis → Bool → List Inner → HeadLine
head_of line names axes product inner = record { line = line; names = names; axes = axes; product = product; inner = inner; end_line = 0 }

abbrev pub head : ℕ → List (List ℕ) → Axis → HeadLine
head line names axis = head_of line names (axis ∷ []) false []

abbrev pub nested_head : ℕ → List (List ℕ) → Axis → List Inner → HeadLine
nested_head line names axis inner = head_of line names (axis ∷ []) false inner

abbrev pub product_head : ℕ → List (List ℕ) → List Axis → HeadLine
product_head line names axes = head_of line names axes true []

abbrev pub inner : List ℕ → RangeExpr → Inner
inner name range = record { name = name; range = range }

abbrev pub branch : ℕ → Expr → List Statement → Branch
branch line test block = record { line = line; test = test; block = block }

abbrev pub printed : ℕ → List ℕ → PrintLine
printed line name = record { line = line; name = name }

abbrev pub loop : List Binding → HeadLine → List Binding → List Statement → List PrintLine → ProgramTree
loop vars head scratch body prints = record { skip_line = None; vars = vars; head = head; scratch = scratch; body = body; prints = prints }

-- the line breaks the rule of this number at the name
abbrev pub offends : ℕ → ℕ → List ℕ → Option Offence
offends line number name = Some (record { number = number; line = line; name = name })
