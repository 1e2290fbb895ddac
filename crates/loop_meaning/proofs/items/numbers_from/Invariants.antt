use Rattle.std.proofs.Common.{◌≡◌, map}
use Rattle.number_ranges.specs.Ranges.{items_from}
use Rattle.loop_data.specs.declared.value.Value.TheVariants.{Int}
use Rattle.loop_meaning.proofs.items.numbers_from.Given as goal

-- the numbers so far
abbrev pub invariant-loop-before : goal.invariant-loop-before
invariant-loop-before l = l.items ≡ map Int (items_from l.first l.step l.before)
