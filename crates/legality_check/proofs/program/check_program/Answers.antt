use Rattle.std.proofs.Common.{refl}
use Rattle.std.proofs.lemmas.Result.{err_from_is_err_and}
use Rattle.legality_check.proofs.CheckLemmas.{err_is_first, err_is_illegal, ok_has_none, ok_is_legal}
use Rattle.legality_check.proofs.program.check_program.Goals as goal

pub returns-in_err-check_tree-clause-legal : goal.returns-in_err-check_tree-clause-legal
returns-in_err-check_tree-clause-legal c = λ ne.
    let p = err_from_is_err_and c.from_residual.result c.from_residual.ensures.1 in
    err_is_illegal c.tree.result.now c.args.program c.check_tree.result c.tree.ensures.parts c.tree.ensures.well_formed c.check_tree.ensures c.from_residual.result p.0
    c.in_err-check_tree.field-0.0 c.in_err-check_tree.was p.1 p.2 ne

pub returns-in_err-check_tree-clause-first : goal.returns-in_err-check_tree-clause-first
returns-in_err-check_tree-clause-first c = λ o ne.
    let p = err_from_is_err_and c.from_residual.result c.from_residual.ensures.1 in
    err_is_first c.tree.result.now c.args.program c.check_tree.result c.tree.ensures.parts c.tree.ensures.well_formed c.check_tree.ensures c.from_residual.result p.0
    c.in_err-check_tree.field-0.0 c.in_err-check_tree.was p.1 p.2 ne o

pub invariant_of-result : goal.invariant_of-result
invariant_of-result c =
    ok_is_legal c.tree.result.now c.args.program c.check_tree.result c.tree.ensures.parts c.tree.ensures.well_formed c.check_tree.ensures c.in_ok-check_tree.field-0 c.in_ok-check_tree.was

pub returns-clause-legal : goal.returns-clause-legal
returns-clause-legal c = λ ne. (
  λ ok.
      ok_is_legal c.tree.result.now c.args.program c.check_tree.result c.tree.ensures.parts c.tree.ensures.well_formed c.check_tree.ensures c.in_ok-check_tree.field-0 c.in_ok-check_tree.was,
  λ legal. refl,
)

pub returns-clause-first : goal.returns-clause-first
returns-clause-first c = λ o ne. (
  λ h. absurd (cc),
  λ first.
      absurd (ok_has_none c.tree.result.now c.args.program c.check_tree.result c.tree.ensures.parts c.tree.ensures.well_formed c.check_tree.ensures c.in_ok-check_tree.field-0 c.in_ok-check_tree.was o first),
)
