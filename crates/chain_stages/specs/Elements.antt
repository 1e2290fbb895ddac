-- The element of an item: what goes into a chain, and what statements leave of it.
-- Source: this project, after Transducers.jl.
use Rattle.std.specs.Prelude.{ℕ, List, [], ◌∷◌, ◌++◌, codes, pos}
use Rattle.std.specs.FinMap.{insert}
use Rattle.loop_data.specs.declared.value.Value.{Value}
use Rattle.loop_data.specs.declared.value.Value.TheVariants.{Int}
use Rattle.loop_grammar.specs.declared.tree.ProgramTree.{ProgramTree}
use Rattle.loop_values.specs.declared.ranges.InnerRange.{InnerRange}
use Rattle.loop_values.specs.Bindings.{Bindings, place_name}
use Rattle.loop_meaning.specs.declared.steps.BodyRun.{BodyRun}
use Rattle.loop_meaning.specs.declared.steps.Pair.{Pair}
use Rattle.loop_meaning.specs.declared.steps.Flow.TheVariants as flow
use Rattle.loop_meaning.specs.Stores.{start_store}
use Rattle.chain_stages.specs.declared.element.Element.{Element}
use Rattle.chain_stages.specs.declared.element.Mark.{Mark}
use Rattle.chain_stages.specs.declared.element.Mark.TheVariants as mark

-- the name of an item that a pattern of several names takes apart, which no line can spell
abbrev pub item_name : List ℕ
item_name = codes "@item"

-- a range without items
abbrev pub no_range : InnerRange
no_range = record { first = pos 0; step = pos 1; count = 0 }

-- the item under the pattern's name; where the pattern has several names, under `@item`
abbrev pub with_item : Bindings → List (List ℕ) → Value → Bindings
with_item names (n ∷ []) item = insert names n item
with_item names ns item = insert names item_name item

-- an element as a chain begins with it: the width is 1, the mark is Going, the inner range is empty, and nothing is emitted
abbrev pub beginning : Bindings → Element
beginning names = record { env = names; width = 1; mark = mark.Going; inner = no_range; emitted = [] }

-- the element of an item at a place: the outer variables and the scratches have their literals' values, `place` the place
abbrev pub element_of : ProgramTree → Value → ℕ → Element
element_of program item place = beginning (with_item (insert (start_store program) place_name (Int (pos place))) program.head.names item)

-- the element with the name bound to the value
abbrev pub binding : List ℕ → Value → Element → Element
binding name v e = record e { env = insert e.env name v }

-- a body run that begins where the element stands
abbrev pub run_of : Element → BodyRun
run_of e = record { names = e.env; emitted = e.emitted; flow = flow.Going }

-- the body run, of whose pairs only those that the element had before it count
abbrev pub without_pairs : Element → BodyRun → BodyRun
without_pairs e run = record run { emitted = e.emitted }

-- the element where a body run left it
abbrev pub left_by : BodyRun → Mark → Element → Element
left_by run m e = record e { env = run.names; mark = m; emitted = run.emitted }

-- the emitted pairs of elements, in order
abbrev pub emitted_by : List Element → List Pair
emitted_by [] = []
emitted_by (e ∷ es) = e.emitted ++ emitted_by es
