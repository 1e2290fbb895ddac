-- The text of a tower's state, and of a named tower as `explain` writes it.
-- Source: this project.
use Rattle.std.specs.Prelude.{ℕ, if◌then◌else◌, List, [], ◌∷◌, ◌++◌, map, codes, pos, Option, Some, None}
use Rattle.std.specs.Fmt.{signed_decimal}
use Rattle.std.specs.Option.{option_map}
use Rattle.loop_data.specs.declared.value.Value.{Value}
use Rattle.loop_data.specs.KindTexts.{kind_text}
use Rattle.loop_data.specs.ValueTexts.{separated, value_text}
use Rattle.loop_results.specs.ResultTexts.{found_text, found_at_text}
use Rattle.reducer_laws.specs.Laws.{at_int_place}
use Rattle.reducer_tower.specs.declared.state.TowerState.{TowerState}
use Rattle.reducer_tower.specs.declared.state.TowerState.TheOpen.{TowerState-F, TowerState-F as s}
use Rattle.reducer_tower.specs.declared.state.TowerState.TheFolds.{fold-TowerState}
use Rattle.reducer_tower.specs.declared.named.Named.{Named}

-- a group as K: R
abbrev pub group_text : List ℕ × List ℕ → List ℕ
group_text g = g.0 ++ codes ": " ++ g.1

-- a list as [A, B]
abbrev pub list_text : List Value → List ℕ
list_text xs = codes "[" ++ separated (map value_text xs) ++ codes "]"

-- one layer of a state, given the texts of its inner states
abbrev pub state_text_step : TowerState-F (List ℕ) → List ℕ
state_text_step (s.Sum total) = signed_decimal total
state_text_step (s.Prod product) = signed_decimal product
state_text_step (s.Count n) = signed_decimal (pos n)
state_text_step (s.Truth b) = if b then codes "true" else codes "false"
state_text_step (s.Found x) = found_text x
state_text_step (s.FoundAt x) = found_at_text (option_map at_int_place x)
state_text_step (s.Listed xs) = list_text xs
state_text_step (s.Grouped groups) = codes "{" ++ separated (map group_text groups) ++ codes "}"
state_text_step (s.Both a b) = codes "(" ++ a ++ codes ", " ++ b ++ codes ")"

-- what the inputs of a state come to, as it says them
abbrev pub state_text : TowerState → List ℕ
state_text = fold-TowerState (List ℕ) state_text_step

-- groups as {K: R, K: R}
abbrev pub groups_text : List (List ℕ × TowerState) → List ℕ
groups_text groups = codes "{" ++ separated (map group_text (map (λ g. (g.0, state_text g.1)) groups)) ++ codes "}"

-- ` from V` where there is a start value
abbrev pub start_text : Option Value → List ℕ
start_text None = []
start_text (Some x) = codes " from " ++ value_text x

-- NAME: TOWER, as in `total: sum from 100`
abbrev pub named_text : Named → List ℕ
named_text named = named.name ++ codes ": " ++ kind_text named.tower.kind ++ start_text named.start
