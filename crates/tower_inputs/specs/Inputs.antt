-- What an `@reduce` line emits: the input of its tower, evaluated from left to right, or the first fault; the most such lines.
-- Source: this project.
use Rattle.std.specs.Prelude.{ℕ, if◌then◌else◌, [], ◌∷◌, Ok}
use Rattle.loop_data.specs.declared.value.Value.{Value}
use Rattle.loop_data.specs.declared.value.Value.TheVariants.{Nothing, Tuple}
use Rattle.loop_data.specs.declared.tower.TowerExpr.{TowerExpr}
use Rattle.loop_data.specs.declared.tower.TowerExpr.TheOpen.{TowerExpr-F, TowerExpr-F as t}
use Rattle.loop_data.specs.declared.tower.TowerExpr.TheFolds.{fold-TowerExpr}
use Rattle.loop_values.specs.Bindings.{place_name}
use Rattle.loop_values.specs.Operations.{Outcome, and_then}
use Rattle.loop_values.specs.Values.{Meaning, bound, value_of}
use Rattle.tower_inputs.specs.Towers.{with_place}

-- the most `@reduce` lines of a loop
abbrev pub most_sites : ℕ
most_sites = 64

abbrev pub pair_of : Value → Value → Value
pair_of x y = Tuple (x ∷ y ∷ [])

-- the pair of a value and of what is evaluated after it
abbrev pub paired : Value → Outcome → Outcome
paired x r = and_then r (λ y. Ok (pair_of x y))

-- one layer of a tower, given the inputs of its inner towers
abbrev pub input_step : TowerExpr-F Meaning → Meaning
input_step (t.Leaf kind x) env =
    and_then (value_of x env) (λ v. if with_place kind then paired v (bound (env place_name)) else Ok v)
input_step t.Count env = Ok Nothing
input_step (t.Grouped key inner) env = and_then (value_of key env) (λ k. paired k (inner env))
input_step (t.Both left right) env = and_then (left env) (λ l. paired l (right env))

-- the value; nothing for `count`; the pair of value and place for `argmin` and `argmax`; the pair of key and inner input for
-- `group`; the pair of both inputs for `both`
abbrev pub input_of : TowerExpr → Meaning
input_of = fold-TowerExpr Meaning input_step
