use Rattle.std.proofs.Common.{◌≡◌, ◌++◌, true, false, ap, sym, ◌∙◌, subst}
use Rattle.loop_tokens.specs.declared.keyword.Keyword.TheVariants as kw
use Rattle.loop_data.specs.declared.tower.TowerExpr.{TowerExpr}
use Rattle.loop_data.specs.declared.tower.TowerExpr.TheVariants as tower
use Rattle.loop_layout.specs.Layout.{marks_text}
use Rattle.loop_layout.specs.Canonical.{Written, expr_marks, tower_marks}
use Rattle.loop_writer.proofs.Lists.{then_ok, pair_called}
use Rattle.loop_writer.proofs.SpelledLines.{tower-Grouped, tower-Both}
use Rattle.loop_writer.proofs.towers.+write_tower.Goals as goal

pub returns-in_ok-write_tower-in-Grouped : goal.returns-in_ok-write_tower-in-Grouped
returns-in_ok-write_tower-in-Grouped t c =
    let key = c.in-Grouped.key in
    let inner = c.get.result.now in
    let old = c.args.out.now.items in
    let new = c.write_sign-in-Grouped-3.new.out.items in
    let P : Written → Type 0 = λ m. new ≡ old ++ marks_text (m c.args.apart) in
    let Q : TowerExpr → Type 0 = λ x. new ≡ old ++ marks_text (tower_marks x c.args.apart) in
    then_ok c.write_sign-in-Grouped-3.result
    (λ closed. subst Q (ap (λ (x : TowerExpr). tower.Grouped key x) c.get.ensures ∙ sym c.in-Grouped.is) (subst P (tower-Grouped key inner)
    (pair_called kw.Group c.args.apart (expr_marks key false) (tower_marks inner true) old c.write_keyword-in-Grouped.new.out.items c.write_sign-in-Grouped.new.out.items
    c.write_expr-in-Grouped.new.out.items c.write_sign-in-Grouped-2.new.out.items c.write_tower.new.out.items new c.in_ok-write_keyword-in-Grouped.ensures
    c.in_ok-write_sign-in-Grouped.ensures c.in_ok-write_expr-in-Grouped.ensures c.in_ok-write_sign-in-Grouped-2.ensures c.in_ok-write_tower-in-Grouped.ensures closed)))
    c.write_sign-in-Grouped-3.ensures

pub returns-in_ok-write_tower-in-Both-2 : goal.returns-in_ok-write_tower-in-Both-2
returns-in_ok-write_tower-in-Both-2 t c =
    let left = c.get-in-Both.result.now in
    let right = c.get-in-Both-2.result.now in
    let old = c.args.out.now.items in
    let new = c.write_sign-in-Both-3.new.out.items in
    let P : Written → Type 0 = λ m. new ≡ old ++ marks_text (m c.args.apart) in
    let Q : TowerExpr → Type 0 = λ x. new ≡ old ++ marks_text (tower_marks x c.args.apart) in
    then_ok c.write_sign-in-Both-3.result
    (λ closed. subst Q (ap (λ (x : TowerExpr). tower.Both x right) c.get-in-Both.ensures ∙ ap (λ (x : TowerExpr). tower.Both c.in-Both.left x) c.get-in-Both-2.ensures ∙ sym c.in-Both.is)
    (subst P (tower-Both left right)
    (pair_called kw.Both c.args.apart (tower_marks left false) (tower_marks right true) old c.write_keyword-in-Both.new.out.items c.write_sign-in-Both.new.out.items
    c.write_tower-in-Both.new.out.items c.write_sign-in-Both-2.new.out.items c.write_tower-in-Both-2.new.out.items new c.in_ok-write_keyword-in-Both.ensures
    c.in_ok-write_sign-in-Both.ensures c.in_ok-write_tower-in-Both.ensures c.in_ok-write_sign-in-Both-2.ensures c.in_ok-write_tower-in-Both-2.ensures closed)))
    c.write_sign-in-Both-3.ensures
