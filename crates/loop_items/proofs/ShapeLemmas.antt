-- The shape of open axes, and the head that they make.
use Rattle.std.proofs.Common.{◌≡◌, ℕ, ◌≤◌, Bool, true, false, List, [], ◌∷◌, length, map, Option, Some, None, Result, Ok, Err, refl, ap, ap₂, sym, subst, ◌∙◌, arith}
use Rattle.std.specs.Prelude.{if◌then◌else◌, nat_lt}
use Rattle.std.proofs.lemmas.Bool.Decides.{nat_tests}
use Rattle.number_ranges.specs.Ranges.{most_items}
use Rattle.splittable.specs.Places.{checked_shape, excess_of, first_excess, item_count}
use Rattle.splittable.specs.declared.shapes.ShapeRefusal.{ShapeRefusal}
use Rattle.splittable.specs.declared.shapes.ShapeRefusal.TheVariants.{TooManyAxes, TooManyItems}
use Rattle.column_input.specs.Table.{Contents}
use Rattle.std.specs.FinMap.{get}
use Rattle.loop_data.specs.declared.value.Value.{Value}
use Rattle.loop_data.specs.declared.head.Axis.{Axis}
use Rattle.loop_grammar.specs.declared.tree.ProgramTree.{ProgramTree}
use Rattle.loop_meaning.specs.Items.{Sources, sources, sources_of}
use Rattle.loop_meaning.specs.Stores.{variables}
use Rattle.loop_values.specs.Bindings.{Bindings}
use Rattle.loop_items.specs.declared.refusal.HeadRefusal.{HeadRefusal}
use Rattle.loop_items.specs.declared.refusal.HeadRefusal.TheVariants as refused
use Rattle.loop_items.specs.Fields.{AreAxes, head_of_axes}
use Rattle.loop_items.specs.Heads.{head_of, opened}
use Rattle.loop_items.specs.Opening.{AreOpen}
use Rattle.loop_items.specs.Refusals.{axis_lens, first_refusal, head_refusal, or_else, product_refusal, unless_refused}
use Rattle.loop_items.specs.Collected.{all_collected}
use Rattle.loop_meaning.proofs.CountLemmas.{all_counted}
use Rattle.loop_items.proofs.Counted.{lists_many}
use Rattle.loop_items.proofs.HeadForms.{HasAxes}
use Rattle.loop_items.proofs.OpeningLemmas.{was_fine, was_refused}

-- a shape, unless it has too many items
abbrev unless_over : Option ℕ → List ℕ → Result (List ℕ) ShapeRefusal
unless_over None lens = Ok lens
unless_over (Some count) lens = Err (TooManyItems count)

not_over : (n : ℕ) → n ≤ 4 → nat_lt 4 n ≡ false
not_over n h = grind (arith, nat_tests)

over_at : (lens : List ℕ) (axes over : Bool) → axes ≡ false →
    (if axes then Err TooManyAxes else if over then Err (TooManyItems (first_excess lens)) else Ok lens) ≡ unless_over (if over then Some (first_excess lens) else None) lens
over_at lens true over e = absurd (cc e)
over_at lens false true e = refl
over_at lens false false e = refl

checked : (lens : List ℕ) → 1 ≤ length lens → length lens ≤ 4 → checked_shape lens ≡ unless_over (excess_of lens) lens
checked [] some most = absurd (omega (arith, some))
checked (len ∷ lens) some most =
    over_at (len ∷ lens) (nat_lt 4 (length (len ∷ lens))) (nat_lt most_items (item_count (len ∷ lens))) (not_over (length (len ∷ lens)) most)

fits_at : (line : ℕ) (over : Option ℕ) (lens shape : List ℕ) → Ok shape ≡ unless_over over lens → Ok shape ≡ unless_refused (product_refusal line over) lens
fits_at line None lens shape e = cc e
fits_at line (Some count) lens shape e = absurd (cc e)

over_too : (line : ℕ) (over : Option ℕ) (lens : List ℕ) (count : ℕ) → Err (TooManyItems count) ≡ unless_over over lens →
    Err (refused.TooManyItems count line) ≡ unless_refused (product_refusal line over) lens
over_too line None lens count e = absurd (cc e)
over_too line (Some other) lens count e = let same : count ≡ other = cc e in ap (λ n. Err (refused.TooManyItems n line)) same

never_at : (over : Option ℕ) (lens : List ℕ) (r : ShapeRefusal) → Err r ≡ unless_over over lens → (count : ℕ) × (r ≡ TooManyItems count)
never_at None lens r e = absurd (cc e)
never_at (Some count) lens r e = (count, cc e)

module _ (line : ℕ) (lens : List ℕ) (some : 1 ≤ length lens) (most : length lens ≤ 4) where
  pub shape_fits : (shape : List ℕ) → Ok shape ≡ checked_shape lens → Ok shape ≡ unless_refused (product_refusal line (excess_of lens)) lens
  shape_fits shape e = fits_at line (excess_of lens) lens shape (e ∙ checked lens some most)

  pub shape_over : (count : ℕ) → Err (TooManyItems count) ≡ checked_shape lens → Err (refused.TooManyItems count line) ≡ unless_refused (product_refusal line (excess_of lens)) lens
  shape_over count e = over_too line (excess_of lens) lens count (e ∙ checked lens some most)

  pub only_over : (r : ShapeRefusal) → Err r ≡ checked_shape lens → (count : ℕ) × (r ≡ TooManyItems count)
  only_over r e = never_at (excess_of lens) lens r (e ∙ checked lens some most)

-- ---- the parts of a program's tree

module _ (program tree : ProgramTree) (same : tree ≡ program) where
  pub open_of_program : (table : Contents) (axes : List Axis) (names : Bindings) (lists : List (List Value)) → axes ≡ tree.head.axes → names ≡ variables program →
      AreOpen tree.head.line axes (sources (get names) table) lists → AreOpen program.head.line program.head.axes (sources_of program table) lists
  open_of_program table axes names lists here named fine =
      let P : List Axis → Type 0 = λ xs. AreOpen tree.head.line xs (sources (get names) table) lists in
      let Q : ProgramTree → Type 0 = λ t. AreOpen t.head.line t.head.axes (sources (get names) table) lists in
      let R : Bindings → Type 0 = λ ns. AreOpen program.head.line program.head.axes (sources (get ns) table) lists in
      subst R named (subst Q same (subst P here fine))

  pub shape_of_program : (slice lists : List (List Value)) (result : Result (List ℕ) HeadRefusal) → slice ≡ lists →
      result ≡ unless_refused (product_refusal tree.head.line (excess_of (map length slice))) (map length slice) →
      result ≡ unless_refused (product_refusal program.head.line (excess_of (map length lists))) (map length lists)
  shape_of_program slice lists result held is =
      is ∙ ap₂ (λ (t : ProgramTree) (xs : List (List Value)). unless_refused (product_refusal t.head.line (excess_of (map length xs))) (map length xs)) same held

-- open axes and their shape
pub axes_are : (line : ℕ) (axes : List Axis) (from : Sources) (product : Bool) (slice lists : List (List Value)) (lens : List ℕ) → HasAxes product axes → slice ≡ lists →
    AreOpen line axes from lists → Ok lens ≡ unless_refused (product_refusal line (excess_of (map length slice))) (map length slice) → AreAxes lens product lists
axes_are line axes from product slice lists lens has held fine is =
    let many : length lists ≡ length axes = ap length fine.values ∙ lists_many axes from in
    let told = was_fine (product_refusal line (excess_of (map length slice))) (map length slice) lens is in
    record {
      lens_are = told.1 ∙ ap (map length) held;
      some = omega (arith, many, has.some);
      most = omega (arith, many, has.most);
      one = λ e. many ∙ has.one e;
    }

-- ---- the whole head

module _ (program : ProgramTree) (table : Contents) where
  abbrev line : ℕ
  line = program.head.line

  abbrev from : Sources
  from = sources_of program table

  -- an axis is refused
  pub axis_refused : (r : HeadRefusal) → first_refusal program.head.line (all_collected program.head.axes (sources_of program table)) ≡ Some r → Err r ≡ opened program table
  axis_refused r is = sym (ap (λ o. unless_refused (or_else o (product_refusal line (excess_of (axis_lens program.head from)))) (head_of program table)) is)

  module _ (lists : List (List Value)) (fine : AreOpen program.head.line program.head.axes (sources_of program table) lists) where
    lens_are : map length lists ≡ axis_lens program.head (sources_of program table)
    lens_are = ap (map length) fine.values ∙ all_counted program.head.axes from

    -- no axis is refused, so the product decides
    product_decides : head_refusal program.head (sources_of program table) ≡ product_refusal program.head.line (excess_of (map length lists))
    product_decides =
        ap (λ o. or_else o (product_refusal line (excess_of (axis_lens program.head from)))) fine.fine
        ∙ ap (λ ls. product_refusal line (excess_of ls)) (sym lens_are)

    pub head_refused : (r : HeadRefusal) → Err r ≡ unless_refused (product_refusal program.head.line (excess_of (map length lists))) (map length lists) → Err r ≡ opened program table
    head_refused r is =
        let told = was_refused (product_refusal line (excess_of (map length lists))) (map length lists) r is in
        sym (ap (λ o. unless_refused o (head_of program table)) (product_decides ∙ told))

    pub head_opened : (lens : List ℕ) → Ok lens ≡ unless_refused (product_refusal program.head.line (excess_of (map length lists))) (map length lists) →
        Ok (head_of_axes lens program.head.product lists) ≡ opened program table
    head_opened lens is =
        let told = was_fine (product_refusal line (excess_of (map length lists))) (map length lists) lens is in
        let same : head_of_axes lens program.head.product lists ≡ head_of program table =
        ap₂ (λ ls xs. head_of_axes ls program.head.product xs) (told.1 ∙ lens_are) fine.values
        in
        ap Ok same ∙ sym (ap (λ o. unless_refused o (head_of program table)) (product_decides ∙ told.0))
