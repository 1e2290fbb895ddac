-- What holds on the lines of a program: the kinds of the names in scope, and the inputs of `@reduce` lines.
-- Source: this project's language.
use Rattle.std.specs.Prelude.{◌≡◌, ℕ, true, List, Option, Some, None, Ok}
use Rattle.std.specs.List.{AllByRecursion}
use Rattle.loop_data.specs.declared.value.Value.{Value}
use Rattle.loop_data.specs.declared.tower.TowerExpr.{TowerExpr}
use Rattle.loop_grammar.specs.declared.tree.ProgramTree.{ProgramTree}
use Rattle.loop_grammar.specs.Texts.{SpellsProgram}
use Rattle.loop_values.specs.Bindings.{Names}
use Rattle.loop_values.specs.Fits.{Agree, fits_tower}
use Rattle.loop_values.specs.Kinds.{Kinds, AreWellFormed}
use Rattle.tower_inputs.specs.Inputs.{input_of}
use Rattle.tower_inputs.specs.Laws.{HasPlace}
use Rattle.tower_inputs.specs.Towers.{kind_of_tower}
use Rattle.legality_rules.specs.Scopes.{kinds_in}
use Rattle.legality_rules.specs.Lines.{Form, reduce_line}
use Rattle.legality_rules.specs.Rules.{Spot}
use Rattle.legality_rules.specs.Offences.{IsLegal, spots_of}

-- on every line of a program the kinds of the names in scope are well formed
abbrev pub KindsInScopeAreWellFormed : Type 0
KindsInScopeAreWellFormed = (text : List ℕ) (program : ProgramTree) → SpellsProgram text program →
    AllByRecursion (λ (spot : Spot). AreWellFormed (kinds_in spot.here.scope)) (spots_of program)

-- the input fits the tower, where the values of names fit the kinds of these and `place` is bound to a place
abbrev pub EmitsFitting : TowerExpr → Kinds → Type 0
EmitsFitting tower names = (env : Names) (input : Value) → Agree names env → HasPlace env → input_of tower env ≡ Ok input →
    fits_tower (kind_of_tower tower) input ≡ true

abbrev pub StartFits : Option Value → TowerExpr → Type 0
StartFits None tower = Unit {0}
StartFits (Some start) tower = fits_tower (kind_of_tower tower) start ≡ true

-- an `@reduce` line whose start value, where it has one, and whose every input fit its tower
abbrev pub InputsFit : Kinds → Form → Type 0
InputsFit names (reduce_line n tower start) = StartFits start tower × EmitsFitting tower names
InputsFit names _ = Unit {0}

-- in a legal program each input of an `@reduce` line fits its tower, a start value too
abbrev pub LegalInputsFit : Type 0
LegalInputsFit = (text : List ℕ) (program : ProgramTree) → SpellsProgram text program → IsLegal program →
    AllByRecursion (λ (spot : Spot). InputsFit (kinds_in spot.here.scope) spot.here.says) (spots_of program)
