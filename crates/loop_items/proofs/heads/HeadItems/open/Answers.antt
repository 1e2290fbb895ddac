use Rattle.std.proofs.Common.{◌≡◌, Ok, Err, length, ap, ◌∙◌, arith}
use Rattle.std.specs.FinMap.{get}
use Rattle.loop_grammar.specs.declared.tree.ProgramTree.{ProgramTree}
use Rattle.loop_meaning.specs.Items.{sources}
use Rattle.loop_meaning.specs.Stores.{variables}
use Rattle.loop_items.specs.Fields.{head_of_axes}
use Rattle.loop_items.specs.declared.refusal.HeadRefusal.TheVariants as refused
use Rattle.loop_items.proofs.Counted.{lists_many}
use Rattle.loop_items.proofs.HeadForms.{tree_axes}
use Rattle.loop_items.proofs.OpeningLemmas.{handed_on}
use Rattle.loop_items.proofs.ShapeLemmas.{axes_are, head_opened, head_refused, open_of_program, shape_of_program}
use Rattle.loop_items.proofs.heads.HeadItems.open.Goals as goal

pub open_axes-requires : goal.open_axes-requires
open_axes-requires c = (tree_axes c.args.program.now c.tree-tree.result.now c.as_slice.result.now c.tree-tree.ensures.well_formed c.tree-tree.ensures.parts c.as_slice.ensures).factors

pub shape_of-requires-clause-some : goal.shape_of-requires-clause-some
shape_of-requires-clause-some c =
    let axes = tree_axes c.args.program.now c.tree-tree.result.now c.as_slice.result.now c.tree-tree.ensures.well_formed c.tree-tree.ensures.parts c.as_slice.ensures in
    let many = ap length c.as_slice-2.ensures.value ∙ ap length c.in_ok-axes.ensures.values ∙ lists_many c.as_slice.result.now (sources (get c.in_ok-names.names) c.args.table.now) in
    omega (arith, many, axes.some)

pub shape_of-requires-clause-most : goal.shape_of-requires-clause-most
shape_of-requires-clause-most c =
    let axes = tree_axes c.args.program.now c.tree-tree.result.now c.as_slice.result.now c.tree-tree.ensures.well_formed c.tree-tree.ensures.parts c.as_slice.ensures in
    let many = ap length c.as_slice-2.ensures.value ∙ ap length c.in_ok-axes.ensures.values ∙ lists_many c.as_slice.result.now (sources (get c.in_ok-names.names) c.args.table.now) in
    omega (arith, many, axes.most)

pub returns-in_err-shape : goal.returns-in_err-shape
returns-in_err-shape c known =
    let same = handed_on c.from_residual-in_err-shape.result c.in_err-shape.field-0.0 c.from_residual-in_err-shape.ensures.1 in
    let fine = open_of_program c.args.program.now c.tree-tree.result.now c.tree-tree.ensures.parts c.args.table.now c.as_slice.result.now c.in_ok-names.names c.in_ok-axes.axes.items c.as_slice.ensures (c.in_ok-names.ensures ∙ ap variables c.tree-tree.ensures.parts) c.in_ok-axes.ensures in
    let told =
    shape_of_program c.args.program.now c.tree-tree.result.now c.tree-tree.ensures.parts c.as_slice-2.result.now c.in_ok-axes.axes.items (Err c.in_err-shape.field-0.0) c.as_slice-2.ensures.value
    (c.in_err-shape.ensures (λ e. known (same ∙ ap Err (let q : c.in_err-shape.field-0.0 ≡ refused.NoMemory = cc e in q))))
    in
    same ∙ head_refused c.args.program.now c.args.table.now c.in_ok-axes.axes.items fine c.in_err-shape.field-0.0 told

pub invariant_of-result : goal.invariant_of-result
invariant_of-result c =
    axes_are c.tree-tree.result.now.head.line c.as_slice.result.now (sources (get c.in_ok-names.names) c.args.table.now) c.tree-tree.result.now.head.product c.as_slice-2.result.now c.in_ok-axes.axes.items c.in_ok-shape.shape
    (tree_axes c.args.program.now c.tree-tree.result.now c.as_slice.result.now c.tree-tree.ensures.well_formed c.tree-tree.ensures.parts c.as_slice.ensures) c.as_slice-2.ensures.value c.in_ok-axes.ensures (c.in_ok-shape.ensures (λ e. cc e))

pub returns : goal.returns
returns c known =
    let fine = open_of_program c.args.program.now c.tree-tree.result.now c.tree-tree.ensures.parts c.args.table.now c.as_slice.result.now c.in_ok-names.names c.in_ok-axes.axes.items c.as_slice.ensures (c.in_ok-names.ensures ∙ ap variables c.tree-tree.ensures.parts) c.in_ok-axes.ensures in
    let told =
    shape_of_program c.args.program.now c.tree-tree.result.now c.tree-tree.ensures.parts c.as_slice-2.result.now c.in_ok-axes.axes.items (Ok c.in_ok-shape.shape) c.as_slice-2.ensures.value
    (c.in_ok-shape.ensures (λ e. cc e))
    in
    ap (λ (t : ProgramTree). Ok (head_of_axes c.in_ok-shape.shape t.head.product c.in_ok-axes.axes.items)) c.tree-tree.ensures.parts
    ∙ head_opened c.args.program.now c.args.table.now c.in_ok-axes.axes.items fine c.in_ok-shape.shape told
