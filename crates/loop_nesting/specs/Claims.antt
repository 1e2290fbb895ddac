-- What is claimed of the nesting of lines: the answer of the reader, and laws of the definitions.
-- Source: this project.
use Rattle.std.specs.Prelude.{◌≡◌, ℕ, List, Result, Ok, Err}
use Rattle.loop_grammar.specs.declared.line.NumberedLine.{NumberedLine}
use Rattle.loop_grammar.specs.declared.tree.ProgramTree.{ProgramTree}
use Rattle.loop_grammar.specs.declared.refusal.SyntaxRefusal.{SyntaxRefusal}
use Rattle.loop_grammar.specs.declared.refusal.SyntaxRefusal.TheVariants.{NoMemory}
use Rattle.loop_grammar.specs.Nesting.{Nests, NestingRefusal, most_blocks}

-- what was refused for another reason than want of memory is refused by the nesting, and for that
abbrev pub RefusesNesting : List NumberedLine → ℕ → Result ProgramTree SyntaxRefusal → Type 0
RefusesNesting lines end (Ok p) = Unit {0}
RefusesNesting lines end (Err NoMemory) = Unit {0}
RefusesNesting lines end (Err r) = NestingRefusal lines end r

-- lines are the lines of one program at most
abbrev pub OneProgram : Type 0
OneProgram = (room more : ℕ) (p q : ProgramTree) (lines : List NumberedLine) →
    Nests room p lines → Nests more q lines → p ≡ q

-- lines are refused in one way at most
abbrev pub OneRefusal : Type 0
OneRefusal = (lines : List NumberedLine) (end : ℕ) (r s : SyntaxRefusal) →
    NestingRefusal lines end r → NestingRefusal lines end s → r ≡ s

-- no lines are both the lines of a program and refused
abbrev pub NeverBoth : Type 0
NeverBoth = (lines : List NumberedLine) (end : ℕ) (p : ProgramTree) (r : SyntaxRefusal) →
    Nests most_blocks p lines → NestingRefusal lines end r → ⊥

-- no lines are neither
abbrev pub NeverNeither : Type 0
NeverNeither = (lines : List NumberedLine) (end : ℕ) →
    ((p : ProgramTree) → Nests most_blocks p lines → ⊥) →
    ((r : SyntaxRefusal) → NestingRefusal lines end r → ⊥) → ⊥
