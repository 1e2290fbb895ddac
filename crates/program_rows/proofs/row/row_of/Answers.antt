use Rattle.std.proofs.Common.{◌≡◌, ◌<◌, ◌^◌, true, length, map, ap, sym, subst, ◌∙◌}
use Rattle.std.specs.List.{list_all}
use Rattle.loop_grammar.specs.WellFormed.{is_well_formed}
use Rattle.reducer_tower.specs.Rows.{start_fits}
use Rattle.fitting_inputs.specs.ReduceLines.{reduce_lines}
use Rattle.program_rows.specs.Rows.{named_line}
use Rattle.program_rows.proofs.FitLemmas.{lines_are_few, starts_fit}
use Rattle.program_rows.proofs.row.row_of.Goals as goal

pub with_lines-requires-clause-fit : goal.with_lines-requires-clause-fit
with_lines-requires-clause-fit c =
    let lines = c.in_ok-lines.ensures ∙ ap (λ p. map named_line (reduce_lines p)) (c.tree.ensures.parts ∙ c.program.ensures.same) in
    let formed = subst (λ p. is_well_formed p ≡ true) c.program.ensures.same c.tree.ensures.well_formed in
    subst (λ l. list_all start_fits l ≡ true) (sym lines) (starts_fit c.legal_reducers_have_one_tower.ensures.starts c.args.legal.now formed c.program.ensures.legal)

pub with_lines-requires-clause-few : goal.with_lines-requires-clause-few
with_lines-requires-clause-few c =
    let lines = c.in_ok-lines.ensures ∙ ap (λ p. map named_line (reduce_lines p)) (c.tree.ensures.parts ∙ c.program.ensures.same) in
    subst (λ l. length l < 2 ^ 32) (sym lines) (lines_are_few c.legal_reducers_have_one_tower.ensures.few c.args.legal.now c.program.ensures.legal)
