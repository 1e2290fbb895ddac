-- What names are bound to: a finite map from names to values, and the look-up of a name in it.
-- Source: this project.
use Rattle.std.specs.Prelude.{ℕ, List, Option, codes}
use Rattle.std.specs.Ordering.{nat_cmp}
use Rattle.std.specs.Cmp.Lexicographic.{slice_cmp}
use Rattle.std.specs.FinMap.{FinMap}
use Rattle.loop_data.specs.declared.value.Value.{Value}

-- names with their values, ordered by the bytes of the names
abbrev pub Bindings : Type 0
Bindings = FinMap (slice_cmp nat_cmp) Value

-- the value of a name, where it is bound: `get env` for bindings `env`
abbrev pub Names : Type 0
Names = List ℕ → Option Value

-- the name under which the place of the item stands, which no line can bind
abbrev pub place_name : List ℕ
place_name = codes "place"
