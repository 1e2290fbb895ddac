-- Emitted pairs as inputs of a row's towers, by their numbers, and what the states of a row stand for with them.
-- Source: this project.
use Rattle.std.specs.Prelude.{◌≤◌, ◌+◌, ◌^◌, ℕ, Bool, true, List, [], ◌∷◌, ◌++◌, length, slice_get, Option, Some, None}
use Rattle.std.specs.List.{list_all}
use Rattle.loop_data.specs.declared.value.Value.{Value}
use Rattle.loop_values.specs.Fits.{fits_tower}
use Rattle.loop_meaning.specs.declared.steps.Pair.{Pair}
use Rattle.reducer_tower.specs.declared.named.Named.{Named}
use Rattle.reducer_tower.specs.declared.row.Emitted.{Emitted}
use Rattle.reducer_tower.specs.declared.row.RowState.{RowState}
use Rattle.reducer_tower.specs.Rows.{RowStands, number_of}

-- ---- pairs by number

-- the input for the tower of this number, or none where there is no number
abbrev pub input_for : Option ℕ → Value → List Emitted
input_for None input = []
input_for (Some i) input = record { tower = i; value = input } ∷ []

-- pairs as inputs of a row's towers, by their numbers; a pair of a name that no tower has counts for none
abbrev pub numbered : List Named → List Pair → List Emitted
numbered row [] = []
numbered row (pair ∷ pairs) = input_for (number_of pair.name row) pair.input ++ numbered row pairs

-- ---- pairs that fit

-- the input fits the tower, where there is one
abbrev pub fits_named : Option Named → Value → Bool
fits_named None input = true
fits_named (Some named) input = fits_tower named.tower.kind input

-- the input fits the row's tower of this number, where there is one
abbrev pub fits_number : List Named → Option ℕ → Value → Bool
fits_number row None input = true
fits_number row (Some i) input = fits_named (slice_get row i) input

-- the pair fits the tower of its name
abbrev pub pair_fits : List Named → Pair → Bool
pair_fits row pair = fits_number row (number_of pair.name row) pair.input

-- each of the pairs does
abbrev pub pairs_fit : List Named → List Pair → Bool
pairs_fit row pairs = list_all (pair_fits row) pairs

-- ---- states

-- whichever list of inputs the states before stood for, those after stand for it with these behind it
abbrev pub TakeBehind : List Named → RowState → RowState → List Emitted → Type 0
TakeBehind row before after inputs = (earlier : List Emitted) → RowStands row before.states.items earlier →
    RowStands row after.states.items (earlier ++ inputs)

-- the states stand for some list of inputs, which with so many more has at most 2^61
abbrev pub HaveRoom : List Named → RowState → ℕ → Type 0
HaveRoom row state more = (inputs : List Emitted) × RowStands row state.states.items inputs × (length inputs + more ≤ 2 ^ 61)
