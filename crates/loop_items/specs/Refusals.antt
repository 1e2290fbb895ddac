-- The first refusal of a head: of its collections from left to right, and then of their product.
-- Source: this project.
use Rattle.std.specs.Prelude.{ℕ, nat_lt, if◌then◌else◌, List, [], ◌∷◌, map, Option, Some, None, Result, Ok, Err, pos}
use Rattle.std.specs.Ordering.{int_eq}
use Rattle.number_ranges.specs.Ranges.{range_count, most_items}
use Rattle.splittable.specs.Places.{excess_of}
use Rattle.column_input.specs.Table.{Contents}
use Rattle.loop_data.specs.declared.head.HeadLine.{HeadLine}
use Rattle.loop_grammar.specs.declared.tree.ProgramTree.{ProgramTree}
use Rattle.loop_meaning.specs.Counts.{all_counts, axis_count}
use Rattle.loop_meaning.specs.Items.{Sources, sources_of}
use Rattle.loop_items.specs.declared.refusal.HeadRefusal.{HeadRefusal}
use Rattle.loop_items.specs.declared.refusal.HeadRefusal.TheVariants as refused
use Rattle.loop_items.specs.Collected.{Collection, column, head_collected, range}

-- what is wrong with a collection of the head on this line, if anything is
abbrev pub collection_refusal : ℕ → Collection → Option HeadRefusal
collection_refusal line (column name None) = Some (refused.NoSuchColumn name line)
collection_refusal line (column name (Some texts)) = None
collection_refusal line (range first step last) =
    if int_eq step (pos 0) then Some (refused.ZeroStep line)
    else if nat_lt most_items (range_count first step last) then Some (refused.TooManyItems (range_count first step last) line)
    else None

-- the first of two, if any
abbrev pub or_else : Option HeadRefusal → Option HeadRefusal → Option HeadRefusal
or_else (Some refusal) other = Some refusal
or_else None other = other

-- what is wrong with the first collection that has something wrong
abbrev pub first_refusal : ℕ → List Collection → Option HeadRefusal
first_refusal line [] = None
first_refusal line (c ∷ cs) = or_else (collection_refusal line c) (first_refusal line cs)

-- the lengths of a head's axes, that of a zip being its shortest part's
abbrev pub axis_lens : HeadLine → Sources → List ℕ
axis_lens head sources = all_counts (map axis_count head.axes) sources

-- too many items of the product: as many as its fewest first axes have that have too many
abbrev pub product_refusal : ℕ → Option ℕ → Option HeadRefusal
product_refusal line (Some count) = Some (refused.TooManyItems count line)
product_refusal line None = None

abbrev pub head_refusal : HeadLine → Sources → Option HeadRefusal
head_refusal head sources =
    or_else (first_refusal head.line (head_collected head sources))
    (product_refusal head.line (excess_of (axis_lens head sources)))

-- the first refusal of a program's first head over a table
abbrev pub first_head_refusal : ProgramTree → Contents → Option HeadRefusal
first_head_refusal program table = head_refusal program.head (sources_of program table)

-- this, unless there is a refusal
abbrev pub unless_refused : {A : Type 0} → Option HeadRefusal → A → Result A HeadRefusal
unless_refused None whole = Ok whole
unless_refused (Some refusal) whole = Err refusal
