-- The statements of the laws of towers and rows.
-- Source: this project.
use Rattle.std.specs.Prelude.{◌≡◌, ℕ, List, ◌++◌, slice_get, Some}
use Rattle.loop_data.specs.declared.value.Value.{Value}
use Rattle.loop_data.specs.declared.tower.Kind.{Kind}
use Rattle.loop_results.specs.ResultTexts.{result_text}
use Rattle.reducer_tower.specs.declared.row.Emitted.{Emitted}
use Rattle.reducer_tower.specs.declared.named.Named.{Named}
use Rattle.reducer_tower.specs.declared.state.TowerState.{TowerState}
use Rattle.reducer_tower.specs.Rows.{inputs_of, started_by, starts_of}
use Rattle.reducer_tower.specs.Stands.{Stands}
use Rattle.reducer_tower.specs.Texts.{state_text}

-- whichever list a state stands for, its text is the result text of that list
abbrev pub SaysTheResult : Type 0
SaysTheResult = (kind : Kind) (state : TowerState) (inputs : List Value) →
    Stands kind state inputs → state_text state ≡ result_text kind inputs

-- behind the start values of a row, the inputs of each tower are its start value, where it has one, and then its own
abbrev pub StartsComeFirst : Type 0
StartsComeFirst = (towers : List Named) (i : ℕ) (named : Named) (inputs : List Emitted) → slice_get towers i ≡ Some named →
    inputs_of i (starts_of towers ++ inputs) ≡ started_by named.start ++ inputs_of i inputs
