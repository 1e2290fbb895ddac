-- What the type of programs keeps, and the lines that were read so far.
-- Source: this project.
use Rattle.std.specs.Prelude.{ℕ, ◌≤◌, List, [], ◌∷◌, ◌++◌, length, Option, Some, None}
use Rattle.loop_grammar.specs.declared.line.Line.{Line}
use Rattle.loop_grammar.specs.declared.line.NumberedLine.{NumberedLine}
use Rattle.loop_grammar.specs.Nesting.{on}
use Rattle.loop_grammar.specs.declared.tree.ProgramTree.{ProgramTree}
use Rattle.loop_grammar.specs.Texts.{SpellsProgram}

-- the most bytes of a loop file
abbrev pub loop_file_limit : ℕ
loop_file_limit = 65536

-- some loop file spells it
abbrev pub IsProgram : ProgramTree → Type 0
IsProgram program = ∥ ((text : List ℕ) × (length text ≤ loop_file_limit) × SpellsProgram text program) ∥₁

-- the text spells it
abbrev pub IsSpelled : List ℕ → ProgramTree → Type 0
IsSpelled text program = ∥ SpellsProgram text program ∥₁

-- the lines so far, and one more where it isn't blank
abbrev pub kept : List NumberedLine → ℕ → Option Line → List NumberedLine
kept forms n None = forms
kept forms n (Some form) = forms ++ on n form ∷ []
