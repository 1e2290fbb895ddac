-- The stage lines of `explain`.
-- Source: this project.
use Rattle.std.specs.Prelude.{ℕ, suc, List, [], ◌∷◌, ◌++◌, codes}
use Rattle.std.specs.Fmt.{decimal}
use Rattle.chain_stages.specs.declared.stages.Stage.{Stage}
use Rattle.chain_stages.specs.declared.stages.Stage.TheVariants.{Map, MapSplat, Filter, KeepSomething, Cat, ReduceIf}

-- NAME, line L
abbrev pub stage_text : Stage → List ℕ
stage_text (Map line action) = codes "Map, line " ++ decimal line
stage_text (MapSplat line names source) = codes "MapSplat, line " ++ decimal line
stage_text (Filter line test) = codes "Filter, line " ++ decimal line
stage_text (KeepSomething line name x) = codes "KeepSomething, line " ++ decimal line
stage_text (Cat line name) = codes "Cat, line " ++ decimal line
stage_text (ReduceIf line test) = codes "ReduceIf, line " ++ decimal line

-- stage I: NAME, line L, with its LF
abbrev pub stage_line : ℕ → Stage → List ℕ
stage_line number stage = codes "stage " ++ decimal number ++ codes ": " ++ stage_text stage ++ codes "\n"

-- the lines of stages, the first of them having this number
abbrev pub lines_from : ℕ → List Stage → List ℕ
lines_from number [] = []
lines_from number (stage ∷ stages) = stage_line number stage ++ lines_from (suc number) stages

-- the stage lines of a chain
abbrev pub chain_text : List Stage → List ℕ
chain_text = lines_from 1
