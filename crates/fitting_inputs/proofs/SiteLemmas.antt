-- The `@reduce` lines with kinds are those by which the inputs of a name are told.
use Rattle.loop_meaning.proofs.ReduceLines.{told_further}
use Rattle.fitting_inputs.specs.Laws.{LinesAreSites, site}
use Rattle.fitting_inputs.specs.ReduceLines.{ReduceLine, reduce_line}

pub lines_are_sites : LinesAreSites
lines_are_sites program = told_further (λ (line : ReduceLine). site line.name line.start) reduce_line program
