-- The row of a program's reducers.
-- Source: this project.
use Rattle.std.specs.Prelude.{ℕ, List, [], ◌∷◌, ◌++◌, map, Option, Some, None}
use Rattle.loop_grammar.specs.declared.tree.ProgramTree.{ProgramTree}
use Rattle.reducer_tower.specs.declared.named.Named.{Named}
use Rattle.reducer_tower.specs.Rows.{number_of, named_tower}
use Rattle.fitting_inputs.specs.ReduceLines.{ReduceLine, reduce_lines}

-- the tower of an `@reduce` line, with the line's name and start value
abbrev pub named_line : ReduceLine → Named
named_line line = named_tower line.name line.kind line.start

-- the row with the line's tower last, where its name has no number there
abbrev pub unless_there : Option ℕ → List Named → Named → List Named
unless_there None row line = row ++ line ∷ []
unless_there (Some i) row line = row

-- a further line's tower, unless a line before has its name
abbrev pub with_line : List Named → Named → List Named
with_line row line = unless_there (number_of line.name row) row line

-- the towers of further lines, one after another
abbrev pub with_lines : List Named → List Named → List Named
with_lines row [] = row
with_lines row (line ∷ lines) = with_lines (with_line row line) lines

-- the reducers of a program in the order of their first `@reduce` lines, each with the kind and the start value of that line
abbrev pub row_of : ProgramTree → List Named
row_of program = with_lines [] (map named_line (reduce_lines program))
