-- The line of the stage to which a `break` is lowered.
-- Source: this project.
use Rattle.std.specs.Prelude.{ℕ, ◌==◌, zero, suc, Bool, false, if◌then◌else◌, List, [], ◌∷◌}
use Rattle.loop_data.specs.declared.statement.Statement.{Statement}
use Rattle.loop_grammar.specs.declared.tree.ProgramTree.{ProgramTree}
use Rattle.chain_stages.specs.declared.stages.Stage.{Stage}
use Rattle.chain_stages.specs.declared.stages.Stage.TheVariants.{ReduceIf}
use Rattle.loop_stages.specs.Holding.{holds, is_break_on, is_reduce}
use Rattle.loop_stages.specs.Lowering.{line_of, most_before_split}

-- The line of the stage by which a `break` on this line ends an item, in a body of whose statements at most so many may stand
-- before the split statement: that of the top statement which is or holds it, and from the split statement on that statement's.
-- A line without a `break` in the body stays as it is.
abbrev pub stage_line_in : ℕ → List Statement → ℕ → ℕ
stage_line_in room [] line = line
stage_line_in zero (x ∷ xs) line = line_of x
stage_line_in (suc room) (x ∷ xs) line =
    if holds is_reduce x then line_of x else (if holds (is_break_on line) x then line_of x else stage_line_in room xs line)

-- the line of the `ReduceIf` stage to which a program's `break` on this line is lowered
abbrev pub stage_line : ProgramTree → ℕ → ℕ
stage_line program = stage_line_in most_before_split program.body

-- whether a stage is a `ReduceIf` on this line
abbrev pub ends_on : ℕ → Stage → Bool
ends_on line (ReduceIf l test) = l == line
ends_on line _ = false
