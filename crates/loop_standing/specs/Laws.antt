-- The five laws of a job, of what the answers of a loop's stretches stand for. Each is the contract of a function of laws.
-- Source: this project.
use Rattle.std.specs.Prelude.{◌<◌, ◌^◌, ◌+◌, List}
use Rattle.loop_data.specs.declared.value.Value.{Value}
use Rattle.loop_grammar.specs.declared.tree.ProgramTree.{ProgramTree}
use Rattle.legality_rules.specs.Offences.{IsLegal}
use Rattle.reducer_laws.specs.Standing.{MayMerge}
use Rattle.reducer_tower.specs.declared.named.Named.{Named}
use Rattle.fold_seq.specs.Standing.{EndsAlike, MayMergeParts, MergeStands, StopLies, StopStands, UnitStands}
use Rattle.loop_standing.specs.declared.state.LoopState.{LoopState}
use Rattle.loop_standing.specs.Standing.{IsFoldable, IsUnit, Merges, StateStands, StretchStands}

abbrev pub UnitsStand : Type 0
UnitsStand = (program : ProgramTree) (row : List Named) (items : List Value) →
    UnitStands (StretchStands program row items) (IsUnit row)

-- a legal loop carries nothing, so its stretches may be run apart
abbrev pub MergesStand : Type 0
MergesStand = (program : ProgramTree) (row : List Named) (items : List Value) → IsLegal program →
    MergeStands (StretchStands program row items) (Merges row)

abbrev pub StopsStand : Type 0
StopsStand = (program : ProgramTree) (row : List Named) (items : List Value) → StopStands (StretchStands program row items)

abbrev pub StopsLie : Type 0
StopsLie = (program : ProgramTree) (row : List Named) (items : List Value) → StopLies (StretchStands program row items)

abbrev pub EndsAreAlike : Type 0
EndsAreAlike = (program : ProgramTree) (row : List Named) (items : List Value) → EndsAlike (StretchStands program row items)

-- two states that a fold merges stand for few enough inputs, and have skipped few enough faults
abbrev pub PartsMayMerge : Type 0
PartsMayMerge = (program : ProgramTree) (row : List Named) (items : List Value) (left right : LoopState) →
    IsFoldable program items →
    MayMergeParts (StretchStands program row items) left right →
    MayMerge (StateStands row) left.row right.row × (left.skipped + right.skipped < 2 ^ 64)
