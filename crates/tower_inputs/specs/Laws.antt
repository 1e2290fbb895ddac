-- What holds of towers, their inputs and the kinds of these: the statements of the laws.
-- Source: this project.
use Rattle.std.specs.Prelude.{◌≡◌, Bool, true, false, List, Some, Ok, Err, ℤ}
use Rattle.std.specs.List.{list_all}
use Rattle.loop_data.specs.declared.value.Value.{Value}
use Rattle.loop_data.specs.declared.value.Value.TheVariants.{Int}
use Rattle.loop_data.specs.declared.value.Value.TheOpen.{Value-F as v}
use Rattle.loop_data.specs.declared.value.ValueKind.{ValueKind}
use Rattle.loop_data.specs.declared.tower.Kind.{Kind}
use Rattle.loop_data.specs.declared.tower.TowerExpr.{TowerExpr}
use Rattle.loop_values.specs.declared.stop.EvalStop.{EvalStop}
use Rattle.loop_values.specs.declared.stop.TypeStop.{TypeStop}
use Rattle.loop_values.specs.declared.stop.TypeStop.TheVariants.{Differs}
use Rattle.loop_values.specs.Bindings.{Names, place_name}
use Rattle.loop_values.specs.Fits.{Agree, fits, fits_tower, is_place_at}
use Rattle.loop_values.specs.Kinds.{Kinds, AreWellFormed, is_plain_kind, is_well_formed}
use Rattle.loop_values.specs.Laws.{is_value_fault}
use Rattle.loop_values.specs.NamesIn.{SameAt}
use Rattle.tower_inputs.specs.InputKinds.{kinds_of_input, takes}
use Rattle.tower_inputs.specs.Inputs.{input_of}
use Rattle.tower_inputs.specs.Towers.{kind_of_tower, names_in_tower, names_read_in_tower, with_place}

-- `place` is bound to a place of an item
pub record HasPlace (env : Names) : Type 0 where
  pub place : ℤ
  pub is : env place_name ≡ Some (Int place)
  pub fit : is_place_at (v.Int place) ≡ true

-- a tower whose expressions have such kinds as it takes has an input that fits it, or a fault, where names and values agree
abbrev pub InputFitsTower : Type 0
InputFitsTower = (tower : TowerExpr) (names : Kinds) (env : Names) (kinds : List ValueKind) (input : Value) →
    AreWellFormed names → Agree names env → HasPlace env → kinds_of_input tower names ≡ Ok kinds → input_of tower env ≡ Ok input →
    fits_tower (kind_of_tower tower) input ≡ true

-- a start value that fits a kind which the tower takes fits the tower, but for `argmin` and `argmax`
abbrev pub StartFitsTower : Type 0
StartFitsTower = (leaf : Kind) (kind : ValueKind) (start : Value) →
    takes leaf kind ≡ true → with_place leaf ≡ false → is_well_formed kind ≡ true → fits kind start ≡ true →
    fits_tower leaf start ≡ true

-- what the names of a tower are bound to is all that its input depends on
abbrev pub InputDependsOnItsNames : Type 0
InputDependsOnItsNames = (tower : TowerExpr) (env other : Names) →
    SameAt env other (names_in_tower tower) → input_of tower env ≡ input_of tower other

-- the kinds of the names that a tower reads are all that the kinds of its input depend on
abbrev pub InputKindsDependOnTheirNames : Type 0
InputKindsDependOnTheirNames = (tower : TowerExpr) (names other : Kinds) →
    SameAt names other (names_read_in_tower tower) → kinds_of_input tower names ≡ kinds_of_input tower other

-- no kind of an input has Maybe in it, where the kinds of names are well formed
abbrev pub InputKindsArePlain : Type 0
InputKindsArePlain = (tower : TowerExpr) (names : Kinds) (kinds : List ValueKind) →
    AreWellFormed names → kinds_of_input tower names ≡ Ok kinds → list_all is_plain_kind kinds ≡ true

-- an input has the faults of expressions
abbrev pub InputsHaveThreeFaults : Type 0
InputsHaveThreeFaults = (tower : TowerExpr) (env : Names) (s : EvalStop) →
    input_of tower env ≡ Err s → is_value_fault s ≡ true

-- a tower without kinds of input is refused in one way
abbrev pub InputKindsDifferOnly : Type 0
InputKindsDifferOnly = (tower : TowerExpr) (names : Kinds) (s : TypeStop) →
    kinds_of_input tower names ≡ Err s → s ≡ Differs
