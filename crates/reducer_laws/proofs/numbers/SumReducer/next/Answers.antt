use Rattle.std.proofs.Common.{w64, ◌∙◌}
use Rattle.std.proofs.lemmas.Int.{to_z-of_z}
use Rattle.reducer_laws.proofs.NumberLemmas.{next_adds, next_stands}
use Rattle.reducer_laws.proofs.numbers.SumReducer.next.Goals as goal

pub overflow_add-state : goal.overflow_add-state
overflow_add-state c =
    let (xs, stood, few) = c.requires.room in
    next_adds c.args.state.now c.args.input c.from.result xs stood c.ranges.input few (c.from.ensures ∙ to_z-of_z w64 c.args.input c.ranges.input)

pub returns-clause-stands : goal.returns-clause-stands
returns-clause-stands c =
    let (xs, stood, few) = c.requires.room in
    next_stands c.args.state.now c.args.input c.from.result xs stood c.ranges.input few (c.from.ensures ∙ to_z-of_z w64 c.args.input c.ranges.input)
