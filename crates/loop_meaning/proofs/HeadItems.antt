-- The items of heads that are products, and of zips.
use Rattle.std.proofs.Common.{◌≡◌, Bool, true, false, ℕ, ◌-◌, ◌<◌, ◌≤◌, Option, List, [], ◌∷◌, length, map, refl, ap, sym, subst, ◌∙◌, arith}
use Rattle.std.specs.Prelude.{if◌then◌else◌, option_map, slice_get}
use Rattle.std.proofs.lemmas.Option.{slice_get-map}
use Rattle.std.proofs.lemmas.List.{length-map}
use Rattle.column_input.specs.Table.{Contents}
use Rattle.loop_data.specs.declared.value.Value.{Value}
use Rattle.loop_data.specs.declared.value.Value.TheVariants.{Tuple}
use Rattle.loop_data.specs.declared.head.Axis.{Axis, fold-roll-Axis}
use Rattle.loop_data.specs.declared.head.Axis.TheVariants.{Zip, rolls-Zip}
use Rattle.loop_data.specs.declared.head.Axis.TheOpen.{Axis-F as a}
use Rattle.loop_grammar.specs.declared.tree.ProgramTree.{ProgramTree}
use Rattle.loop_meaning.specs.Counts.{least_count, product_of}
use Rattle.loop_meaning.specs.Items.{Listing, Sources, all_items, axis_items, axis_step, combinations, items_of, only_axis, side_by_side, sources_of}
use Rattle.loop_meaning.specs.Laws.{AreOfProduct, AreOfZip, ProductHeads, ZipAxes, ZipHeads, at_digits, at_place, axes_of}
use Rattle.loop_meaning.proofs.CountLemmas.{holds_digits, product_counts, zip_counts, zip_holds}

-- the tuples of rows, by what each row holds
tuples_hold : (rows : List (List Value)) (row : ℕ → Option (List Value)) → ((before : ℕ) → before < length rows → slice_get rows before ≡ row before) →
    (place : ℕ) → 1 ≤ place → place ≤ length (map Tuple rows) → slice_get (map Tuple rows) (place - 1) ≡ option_map Tuple (row (place - 1))
tuples_hold rows row holds place low high =
    let within : place - 1 < length rows = omega (arith, low, high, length-map rows Tuple) in
    slice_get-map Tuple rows (place - 1) ∙ ap (option_map Tuple) (holds (place - 1) within)

pub product_items : (axes : List (List Value)) → AreOfProduct (map Tuple (combinations axes)) axes
product_items axes = record {
  holds = tuples_hold (combinations axes) (at_digits axes) (holds_digits axes);
  many = length-map (combinations axes) Tuple ∙ product_counts axes;
}

pub zip_items : (parts : List (List Value)) → AreOfZip (map Tuple (side_by_side parts)) parts
zip_items parts = record {
  holds = tuples_hold (side_by_side parts) (at_place parts) (zip_holds parts);
  many = length-map (side_by_side parts) Tuple ∙ zip_counts parts;
}

abbrev headed : Bool → List (List Value) → List Value
headed product axes = if product then map Tuple (combinations axes) else only_axis axes

pub product_heads : ProductHeads
product_heads program table is =
    let axes = axes_of program table in
    subst (λ (product : Bool). AreOfProduct (headed product axes) axes) (sym is) (product_items axes)

pub zip_axes : ZipAxes
zip_axes parts sources =
    let lists = all_items (map axis_items parts) sources in
    let rolled : axis_items (Zip parts) ≡ axis_step (a.Zip (map axis_items parts)) = ap axis_items (sym (rolls-Zip parts)) ∙ fold-roll-Axis Listing axis_step (a.Zip parts) in
    subst (λ (items : List Value). AreOfZip items lists) (sym (ap (λ (f : Listing). f sources) rolled)) (zip_items lists)

pub zip_heads : ZipHeads
zip_heads program table parts product axes =
    let sources = sources_of program table in
    let lists = all_items (map axis_items parts) sources in
    let alone : items_of program table ≡ axis_items (Zip parts) sources = ap (λ (b : Bool). headed b (axes_of program table)) product ∙ ap (λ (xs : List Axis). only_axis (all_items (map axis_items xs) sources)) axes in
    subst (λ (items : List Value). AreOfZip items lists) (sym alone) (zip_axes parts sources)
