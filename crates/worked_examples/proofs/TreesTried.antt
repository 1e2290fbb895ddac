-- The test of well-formed trees, computed on trees written by hand.
use Rattle.std.proofs.Common.{◌≡◌, true, false, [], ◌∷◌, map, codes, refl, ap, ◌∙◌, rules}
use lib.Utf8.{encode}
use Rattle.std.specs.Str.{is_utf8, chars}
use Rattle.std.proofs.lemmas.Bool.{and_from}
use Rattle.loop_data.specs.declared.expr.Expr.{the_lemmas as expr_lemmas}
use Rattle.loop_data.specs.declared.tower.Kind.{the_lemmas as kind_lemmas}
use Rattle.loop_data.specs.declared.tower.TowerExpr.{the_lemmas as tower_lemmas}
use Rattle.loop_data.specs.declared.head.Axis.{the_lemmas as axis_lemmas}
use Rattle.loop_data.specs.declared.statement.Statement.{the_lemmas as statement_lemmas}
use Rattle.loop_grammar.specs.TreeLines.{tree_lines}
use Rattle.loop_grammar.specs.WellFormed.{are_lines, all_fit, statement_fits, most_inside, is_well_formed}
use Rattle.loop_syntax.proofs.WellFormedTexts.{well_formed_is_spelled}
use Rattle.worked_examples.specs.Trees.{well_formed_tree, its_lines, PassesWhole, RefusesNames, RefusesLiterals, RefusesParts, RefusesOrder, RefusesBranches, RefusesDepth}

key_utf8 : is_utf8 (codes "k") ≡ true
unfolding is_utf8 chars encode
key_utf8 = refl

same_lines : tree_lines well_formed_tree ≡ its_lines
same_lines = search (rules, statement_lemmas)

lines_pass : are_lines 0 its_lines ≡ true
lines_pass = simp (key_utf8, expr_lemmas, kind_lemmas, tower_lemmas, axis_lemmas) refl

body_fits : all_fit (map statement_fits well_formed_tree.body) most_inside ≡ true
body_fits = search (rules, statement_lemmas)

pub passes_whole : PassesWhole
passes_whole =
    let passes : is_well_formed well_formed_tree ≡ true = and_from (are_lines 0 (tree_lines well_formed_tree)) (all_fit (map statement_fits well_formed_tree.body) most_inside) (ap (are_lines 0) same_lines ∙ lines_pass) body_fits in
    (same_lines, passes, well_formed_is_spelled well_formed_tree passes)

pub refuses_names : RefusesNames
refuses_names = (refl, refl, refl, refl, refl, refl, refl)

not_utf8 : is_utf8 (255 ∷ []) ≡ false
unfolding is_utf8 chars encode
not_utf8 = refl

pub refuses_literals : RefusesLiterals
refuses_literals = (refl, refl, refl, not_utf8, refl)

pub refuses_parts : RefusesParts
refuses_parts = (simp expr_lemmas refl, simp expr_lemmas refl, refl, refl, refl, refl, simp axis_lemmas refl, simp (axis_lemmas, expr_lemmas) refl, simp (axis_lemmas, expr_lemmas) refl, simp (kind_lemmas, tower_lemmas) refl)

pub refuses_order : RefusesOrder
refuses_order = (simp (axis_lemmas, expr_lemmas) refl, search (rules, statement_lemmas, axis_lemmas, expr_lemmas), refl)

pub refuses_branches : RefusesBranches
refuses_branches = (search (rules, statement_lemmas, axis_lemmas, expr_lemmas), search (rules, statement_lemmas, axis_lemmas, expr_lemmas), search (rules, statement_lemmas, axis_lemmas, expr_lemmas))

pub refuses_depth : RefusesDepth
refuses_depth = (search (rules, statement_lemmas), search (rules, statement_lemmas), simp (expr_lemmas, tower_lemmas) refl, simp (expr_lemmas, tower_lemmas) refl, simp expr_lemmas refl, simp expr_lemmas refl)
