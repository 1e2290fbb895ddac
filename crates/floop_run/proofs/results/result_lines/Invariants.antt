use Rattle.std.proofs.Common.{◌≡◌, List, map, take}
use Rattle.loop_grammar.specs.declared.tree.ProgramTree.{ProgramTree}
use Rattle.loop_meaning.specs.declared.steps.Pair.{Pair}
use Rattle.floop_run.specs.Results.{result_line}
use Rattle.floop_run.specs.Rows.{AreResults}
use Rattle.floop_run.specs.Outputs.{lines_in}
use Rattle.floop_run.proofs.results.result_lines.Given as goal

abbrev pub invariant-loop-print : goal.invariant-loop-print
invariant-loop-print l =
    (program : ProgramTree) (emitted : List Pair) → AreResults program l.row l.state emitted → lines_in l.lines.items ≡ map (result_line program emitted) (take l.print-index l.prints)
