-- What a chain makes of one item, and when its pairs may go into the states of a row.
-- Source: this project, after Transducers.jl.
use Rattle.std.specs.Prelude.{◌≡◌, true, List, length}
use Rattle.loop_values.specs.Bindings.{Bindings}
use Rattle.loop_meaning.specs.declared.steps.Pair.{Pair}
use Rattle.reducer_tower.specs.declared.named.Named.{Named}
use Rattle.reducer_tower.specs.declared.row.RowState.{RowState}
use Rattle.program_rows.specs.Pairs.{HaveRoom, pairs_fit}
use Rattle.chain_stages.specs.declared.stages.Stage.{Stage}
use Rattle.chain_stages.specs.Chains.{chain_output}
use Rattle.chain_stages.specs.Elements.{beginning, emitted_by}
use Rattle.chain_stages.specs.Stages.{Output, alone}

-- what a chain makes of the one element that begins with these values of names
abbrev pub item_output : List Stage → Bindings → Output
item_output stages names = chain_output stages (alone (beginning names))

-- the pairs of what leaves the chain, in order
abbrev pub item_pairs : List Stage → Bindings → List Pair
item_pairs stages names = emitted_by (item_output stages names).elements

-- each of these pairs may go to its tower: it fits, and the states have room for all of them
abbrev pub MayFold : List Named → RowState → List Pair → Type 0
MayFold row state pairs = (pairs_fit row pairs ≡ true) × HaveRoom row state (length pairs)
