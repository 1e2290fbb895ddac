use Rattle.std.proofs.Common.{◌<◌, ◌≤◌, ◌+◌, ◌-◌, ◌*◌, Some, length}
use Rattle.loop_exprs.specs.Reading.{rank, Reads}
use Rattle.loop_exprs.proofs.Levels.{After}
use Rattle.loop_exprs.proofs.read.+reader.Given as goal

abbrev pub decreases-arguments : goal.decreases-arguments
decreases-arguments l = 40 * length l.tokens.now + 30

abbrev pub decreases-atom : goal.decreases-atom
decreases-atom l = 40 * length l.tokens.now + 10

abbrev pub decreases-branches : goal.decreases-branches
decreases-branches l = 40 * length l.tokens.now + 30

abbrev pub decreases-choice : goal.decreases-choice
decreases-choice l = 40 * length l.tokens.now + 30

abbrev pub decreases-comparison : goal.decreases-comparison
decreases-comparison l = 40 * length l.tokens.now

abbrev pub decreases-expr : goal.decreases-expr
decreases-expr l = 40 * length l.tokens.now + 20

abbrev pub decreases-first : goal.decreases-first
decreases-first l = 40 * length l.tokens.now + 15

abbrev pub decreases-onward : goal.decreases-onward
decreases-onward l = 40 * length l.tokens.now + 5

abbrev pub decreases-operations : goal.decreases-operations
decreases-operations l = 40 * length l.tokens.now

abbrev pub decreases-sign : goal.decreases-sign
decreases-sign l = 40 * length l.tokens.now + 30

abbrev pub decreases-word : goal.decreases-word
decreases-word l = 40 * length l.tokens.now + 35

-- at the level that was come to, the tokens so far are read
abbrev pub invariant-expr-levels : goal.invariant-expr-levels
invariant-expr-levels l = record { under : rank l.at ≤ rank l.level; shorter : length l.rest < length l.tokens; reads : Reads l.at l.tokens (Some (l.left, l.wide, l.rest)) }

abbrev pub decreases-expr-levels : goal.decreases-expr-levels
decreases-expr-levels l = 9 - rank l.at

-- the parts so far begin those that are found
abbrev pub invariant-arguments-parts : goal.invariant-arguments-parts
invariant-arguments-parts l = record { shorter : length l.rest < length l.tokens; after : After l.tokens l.found.items l.wide l.rest }

abbrev pub decreases-arguments-parts : goal.decreases-arguments-parts
decreases-arguments-parts l = length l.rest
