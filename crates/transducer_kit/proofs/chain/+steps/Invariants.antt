use Rattle.std.proofs.Common.{◌+◌, ◌-◌, ◌*◌, drop, length}
use Rattle.transducer_kit.proofs.SpreadLemmas.{Before}
use Rattle.transducer_kit.proofs.chain.+steps.Given as goal

-- what the elements so far gave stands in the list, and what the others give makes the whole
abbrev pub invariant-spread_at-loop-before : goal.invariant-spread_at-loop-before
invariant-spread_at-loop-before l = Before (drop l.at l.stages) l.name l.element l.before l.initial.pairs l.pairs

-- one stage less each time; a spread before the stages after it
abbrev pub decreases-step_at : goal.decreases-step_at
decreases-step_at l = 2 * (length l.stages.now - l.at)

abbrev pub decreases-spread_at : goal.decreases-spread_at
decreases-spread_at l = 2 * (length l.stages.now - l.at) + 1
