-- The words of a kind of tower, as bytes: `sum`, or `group(both(sum, count))`.
-- Source: this project.
use Rattle.std.specs.Prelude.{ℕ, List, ◌++◌, codes}
use Rattle.loop_data.specs.declared.tower.Kind.{Kind}
use Rattle.loop_data.specs.declared.tower.Kind.TheOpen.{Kind-F, Kind-F as k}
use Rattle.loop_data.specs.declared.tower.Kind.TheFolds.{fold-Kind}

abbrev pub kind_text_step : Kind-F (List ℕ) → List ℕ
kind_text_step k.Sum = codes "sum"
kind_text_step k.Prod = codes "prod"
kind_text_step k.Count = codes "count"
kind_text_step k.Least = codes "min"
kind_text_step k.Greatest = codes "max"
kind_text_step k.LeastAt = codes "argmin"
kind_text_step k.GreatestAt = codes "argmax"
kind_text_step k.First = codes "first"
kind_text_step k.Last = codes "last"
kind_text_step k.Any = codes "any"
kind_text_step k.All = codes "all"
kind_text_step k.Listed = codes "list"
kind_text_step (k.Grouped inner) = codes "group(" ++ inner ++ codes ")"
kind_text_step (k.Both left right) = codes "both(" ++ left ++ codes ", " ++ right ++ codes ")"

-- as a line of the loop language has the words
abbrev pub kind_text : Kind → List ℕ
kind_text = fold-Kind (List ℕ) kind_text_step
