-- The lines that tell how a loop is folded: its items, its stages and its reducers.
-- Source: this project.
use Rattle.std.specs.Prelude.{ℕ, ◌+◌, Bool, true, false, List, [], ◌∷◌, ◌++◌, codes, length, map, Vec}
use Rattle.std.specs.Fmt.{decimal}
use Rattle.loop_grammar.specs.SkippedFaults.{skips_faults}
use Rattle.loop_grammar.specs.declared.tree.ProgramTree.{ProgramTree}
use Rattle.column_input.specs.Table.{Contents}
use Rattle.loop_meaning.specs.Items.{items_of}
use Rattle.reducer_tower.specs.declared.named.Named.{Named}
use Rattle.reducer_tower.specs.Texts.{named_text}
use Rattle.program_rows.specs.Rows.{row_of}
use Rattle.chain_stages.specs.declared.stages.Stage.{Stage}
use Rattle.chain_stages.specs.ChainText.{stage_line}
use Rattle.loop_stages.specs.Lowering.{lowered}

-- lines that are held as bytes
abbrev pub lines_in : {A : Type 0} → List (Vec ℕ A) → List (List ℕ)
lines_in lines = map (λ line. line.items) lines

-- items N
abbrev pub items_line : ℕ → List ℕ
items_line count = codes "items " ++ decimal count ++ codes "\n"

-- one line more in a program that skips faults
abbrev pub skip_lines : Bool → List (List ℕ)
skip_lines true = codes "on fault skip\n" ∷ []
skip_lines false = []

-- a line for each stage, the first of them having this number
abbrev pub stage_lines : ℕ → List Stage → List (List ℕ)
stage_lines number [] = []
stage_lines number (stage ∷ stages) = stage_line number stage ∷ stage_lines (number + 1) stages

-- reduce NAME: TOWER, with ` from V` where it has a start value V
abbrev pub reduce_line : Named → List ℕ
reduce_line named = codes "reduce " ++ named_text named ++ codes "\n"

-- the lines for so many items, these stages and these reducers; each has its LF, and an LF inside one parts none
abbrev pub lines_for : ℕ → Bool → List Stage → List Named → List (List ℕ)
lines_for count skips stages row =
    items_line count ∷ (skip_lines skips ++ (stage_lines 1 stages ++ map reduce_line row))

-- the lines of a program, told how many items it has
abbrev pub explain_lines : ProgramTree → ℕ → List (List ℕ)
explain_lines program count = lines_for count (skips_faults program) (lowered program) (row_of program)

-- lines one after another
abbrev pub joined : List (List ℕ) → List ℕ
joined [] = []
joined (line ∷ lines) = line ++ joined lines

-- the text of a program over a table
abbrev pub explain_text : ProgramTree → Contents → List ℕ
explain_text program table = joined (explain_lines program (length (items_of program table)))
