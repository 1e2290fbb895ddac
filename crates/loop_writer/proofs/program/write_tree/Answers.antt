use Rattle.std.proofs.Common.{ℕ, ◌+◌, List, [], ◌∷◌, map, refl, ap, ◌∙◌, subst}
use Rattle.loop_data.specs.declared.statement.Statement.{Statement}
use Rattle.loop_data.specs.declared.head.Binding.{Binding}
use Rattle.loop_data.specs.declared.head.PrintLine.{PrintLine}
use Rattle.loop_grammar.specs.declared.line.Line.TheVariants as l
use Rattle.loop_writer.specs.Programs.{placed_at, block_lines, var_line, init_line, print_line}
use Rattle.loop_writer.specs.Writing.{Wrote}
use Rattle.loop_writer.proofs.Parts.{tree_written}
use Rattle.loop_writer.proofs.program.write_tree.Goals as goal

-- the parts of the program were written one after another
pub returns : goal.returns
returns c =
    let start = c.new-rows.result in
    let skip = c.write_skip.new.rows in
    let vars = c.write_vars.new.rows in
    let head = c.write_head.new.rows in
    let inits = c.write_scratch.new.rows in
    let body = c.write_block.new.rows in
    let ended = c.word_line.new.rows in
    let last = c.write_prints.new.rows in
    let P : List Binding → Type 0 = λ bs. Wrote skip vars (map var_line bs) in
    let Q : List Binding → Type 0 = λ bs. Wrote head inits (map init_line bs) in
    let R : List Statement → Type 0 = λ block. Wrote inits body (block_lines block c.in_ok-inside.inside) in
    let S : List PrintLine → Type 0 = λ ps. Wrote ended last (map print_line ps) in
    let D : ℕ → Type 0 = λ d. Wrote inits body (block_lines c.args.program.now.body d) in
    let E : ℕ → Type 0 = λ d. Wrote body ended (placed_at d c.args.program.now.head.end_line l.End ∷ []) in
    let one = c.in_ok-inside.ensures ∙ ap (λ (d : ℕ). d + 1) c.new-outside.ensures in
    tree_written c.args.program.now start skip vars head inits body ended last c.new-rows.ensures.text c.new-rows.ensures.next c.in_ok-write_skip.ensures (subst P c.as_slice.ensures c.in_ok-write_vars.ensures) c.in_ok-write_head.ensures
    (subst Q c.as_slice-2.ensures c.in_ok-write_scratch.ensures) (subst D one (subst R c.as_slice-3.ensures c.in_ok-write_block.ensures))
    (subst E c.new-outside.ensures (c.in_ok-word_line.ensures l.End refl))
    (subst S c.as_slice-4.ensures c.in_ok-write_prints.ensures)
