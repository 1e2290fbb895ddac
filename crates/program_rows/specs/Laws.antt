-- What holds of the row of a program, and of pairs as its inputs. Each is the contract of a function of laws.
-- Source: this project.
use Rattle.std.specs.Prelude.{◌≡◌, ◌≤◌, ℕ, ◌&&◌, true, List, ◌++◌, length, map, slice_get, Some, None}
use Rattle.std.specs.List.{list_all}
use Rattle.loop_grammar.specs.declared.tree.ProgramTree.{ProgramTree}
use Rattle.loop_meaning.specs.declared.steps.Pair.{Pair}
use Rattle.loop_meaning.specs.Reducers.{inputs_of, reducers_of, start_of}
use Rattle.reducer_tower.specs.declared.named.Named.{Named}
use Rattle.reducer_tower.specs.Rows.{number_of, starts_of}
use Rattle.reducer_tower.specs.Rows as towers
use Rattle.fitting_inputs.specs.ReduceLines.{fits_reducer, reducer_kind}
use Rattle.program_rows.specs.Pairs.{numbered, pairs_fit}
use Rattle.program_rows.specs.Rows.{row_of}

-- ---- the row

-- the names of the row are those of the program's reducers, each once, in the order of their first lines
abbrev pub RowHasReducers : Type 0
RowHasReducers = (program : ProgramTree) →
    map (λ (named : Named). named.name) (row_of program) ≡ reducers_of program

-- the tower under a name has the kind and the start value of the first `@reduce` line of this name
abbrev pub RowKeepsFirstLines : Type 0
RowKeepsFirstLines = (program : ProgramTree) (name : List ℕ) (i : ℕ) (named : Named) →
    number_of name (row_of program) ≡ Some i → slice_get (row_of program) i ≡ Some named →
    (reducer_kind program name ≡ Some named.tower.kind) × (start_of program name ≡ named.start)

-- a name under which the row has no tower is no reducer's
abbrev pub OthersHaveNoTower : Type 0
OthersHaveNoTower = (program : ProgramTree) (name : List ℕ) →
    number_of name (row_of program) ≡ None → reducer_kind program name ≡ None

-- the inputs of the tower under a name, behind the start values, are the inputs of this name
abbrev pub RowHasInputs : Type 0
RowHasInputs = (program : ProgramTree) (pairs : List Pair) (name : List ℕ) (i : ℕ) →
    number_of name (row_of program) ≡ Some i →
    towers.inputs_of i (starts_of (row_of program) ++ numbered (row_of program) pairs) ≡ inputs_of program pairs name

-- ---- pairs

-- pairs that fit their reducers fit the row's towers
abbrev pub FittingPairsFitRow : Type 0
FittingPairsFitRow = (program : ProgramTree) (pairs : List Pair) →
    list_all (fits_reducer program) pairs ≡ true → pairs_fit (row_of program) pairs ≡ true

-- the inputs of two lists of pairs are those of the first followed by those of the second
abbrev pub PairsFollowEachOther : Type 0
PairsFollowEachOther = (row : List Named) (xs ys : List Pair) → numbered row (xs ++ ys) ≡ numbered row xs ++ numbered row ys

-- the pairs of two lists fit where those of each do
abbrev pub PairsFitTogether : Type 0
PairsFitTogether = (row : List Named) (xs ys : List Pair) → pairs_fit row (xs ++ ys) ≡ (pairs_fit row xs && pairs_fit row ys)

-- there is at most one input a pair
abbrev pub NoMoreInputsThanPairs : Type 0
NoMoreInputsThanPairs = (row : List Named) (pairs : List Pair) → length (numbered row pairs) ≤ length pairs
