-- The room that the pairs of one item want, which leave a chain. It is the contract of a function of chain_laws.
-- Source: this project.
use Rattle.std.specs.Prelude.{◌≡◌, ◌≤◌, ◌+◌, ◌^◌, true, false, List, length}
use Rattle.loop_values.specs.Bindings.{Bindings}
use Rattle.reducer_tower.specs.declared.named.Named.{Named}
use Rattle.reducer_tower.specs.declared.row.Emitted.{Emitted}
use Rattle.reducer_tower.specs.declared.row.RowState.{RowState}
use Rattle.reducer_tower.specs.Rows.{RowStands}
use Rattle.program_rows.specs.Pairs.{pairs_fit}
use Rattle.chain_stages.specs.declared.stages.Stage.{Stage}
use Rattle.chain_stages.specs.Cats.{cats_follow}
use Rattle.chain_stages.specs.Reduces.{all_reduces}
use Rattle.transducer_kit.specs.Items.{MayFold, item_pairs}

-- where each `Cat` comes right after a range, and the stages hold at most 64 `@reduce` lines, states that stand for at most
-- 2^61 - 64,000,000 inputs have room for the pairs of one item: these may be folded where they fit
abbrev pub FewMayFold : Type 0
FewMayFold = (row : List Named) (state : RowState) (inputs : List Emitted) (stages : List Stage) (names : Bindings) →
    cats_follow false stages ≡ true → all_reduces stages ≤ 64 → pairs_fit row (item_pairs stages names) ≡ true →
    RowStands row state.states.items inputs → length inputs + 64000000 ≤ 2 ^ 61 → MayFold row state (item_pairs stages names)
