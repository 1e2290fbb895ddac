-- How many `@reduce` lines the stages of a chain hold.
-- Source: this project.
use Rattle.std.specs.Prelude.{ℕ, ◌+◌, List, [], ◌∷◌, length, map}
use Rattle.loop_meaning.specs.Reducers.{all_sites, sites_in}
use Rattle.chain_stages.specs.declared.stages.Doing.{Doing}
use Rattle.chain_stages.specs.declared.stages.Doing.TheVariants.{Block, Rest}
use Rattle.chain_stages.specs.declared.stages.Stage.{Stage}
use Rattle.chain_stages.specs.declared.stages.Stage.TheVariants.{Map}

abbrev pub reduces_of : Doing → ℕ
reduces_of (Block statement) = length (sites_in statement)
reduces_of (Rest statements) = length (all_sites (map sites_in statements))
reduces_of _ = 0

-- how many `@reduce` lines a stage holds
abbrev pub reduces : Stage → ℕ
reduces (Map line action) = reduces_of action
reduces _ = 0

abbrev pub all_reduces : List Stage → ℕ
all_reduces [] = 0
all_reduces (stage ∷ stages) = reduces stage + all_reduces stages
