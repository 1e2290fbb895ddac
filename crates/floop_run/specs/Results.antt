-- What a run comes to: a line for each `print` line, or its fault.
-- Source: this project.
use Rattle.std.specs.Prelude.{ℕ, Bool, true, false, ◌==◌, if◌then◌else◌, List, [], ◌∷◌, ◌++◌, map, length, codes, Option}
use Rattle.std.specs.Prelude.{Some, None}
use Rattle.std.specs.Fmt.{decimal}
use Rattle.loop_data.specs.declared.value.Value.{Value}
use Rattle.loop_data.specs.declared.tower.Kind.{Kind}
use Rattle.loop_data.specs.declared.head.PrintLine.{PrintLine}
use Rattle.loop_results.specs.ResultTexts.{result_text}
use Rattle.loop_grammar.specs.declared.tree.ProgramTree.{ProgramTree}
use Rattle.loop_grammar.specs.SkippedFaults.{skips_faults}
use Rattle.loop_meaning.specs.declared.steps.Pair.{Pair}
use Rattle.loop_meaning.specs.declared.runs.Run.{Run}
use Rattle.loop_meaning.specs.Stores.{start_store}
use Rattle.loop_meaning.specs.Runs.{loop_run}
use Rattle.loop_meaning.specs.Reducers.{inputs_of, reducers_of}
use Rattle.fitting_inputs.specs.ReduceLines.{reducer_kind}

-- a line with its LF
abbrev pub line : List ℕ → List ℕ
line text = text ++ 10 ∷ []

-- ---- results

-- the result text of the inputs of a reducer; a name that is no reducer, which no legal program prints, has none
abbrev pub text_of : Option Kind → List Value → List ℕ
text_of None inputs = []
text_of (Some kind) inputs = result_text kind inputs

-- the line of a `print` line, given what counts of what the run emitted
abbrev pub result_line : ProgramTree → List Pair → PrintLine → List ℕ
result_line program emitted print = line (text_of (reducer_kind program print.name) (inputs_of program emitted print.name))

-- one line more in a program that skips faults: how many were skipped
abbrev pub skipped_lines : Bool → ℕ → List (List ℕ)
skipped_lines true skipped = line (codes "faults: " ++ decimal skipped) ∷ []
skipped_lines false skipped = []

-- the lines of a run that ran to its end or broke: a result a `print` line, in order, and then the number of skipped faults
abbrev pub results_lines : ProgramTree → Run → List (List ℕ)
results_lines program run =
    map (result_line program run.emitted) program.prints ++ skipped_lines (skips_faults program) run.skipped

-- ---- faults

-- what a fault of this kind is called
abbrev pub fault_text : ℕ → List ℕ
fault_text kind =
    if kind == 1 then codes "division error"
    else if kind == 2 then codes "not a number"
    else if kind == 3 then codes "too many inner items"
    else if kind == 4 then codes "text too long"
    else codes "step is zero"

-- the line of the fault that stopped the run: its item's place, its line and what it is called
abbrev pub fault_line : ℕ → ℕ → ℕ → List ℕ
fault_line at in_line kind =
    line (codes "fault: item " ++ decimal at ++ codes ", line " ++ decimal in_line ++ codes ": " ++ fault_text kind)

-- ---- the whole

-- the plain loop over all items, from the store in which it begins and place 1
abbrev pub whole_run : ProgramTree → List Value → Run
whole_run program items = loop_run program (start_store program) items 1

-- what `check` writes: how many items and how many reducers there are
abbrev pub accepted_line : ProgramTree → List Value → List ℕ
accepted_line program items =
    line (codes "accepted: " ++ decimal (length items) ++ codes " items, " ++ decimal (length (reducers_of program))
    ++ codes " reducers")
