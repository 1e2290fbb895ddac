-- The check of the `for` line, once its names are bound.
use Rattle.std.proofs.Common.{◌≡◌, ℕ, Bool, List, Option, Ok, ap, ◌∙◌}
use Rattle.std.specs.List.{list_all}
use Rattle.loop_data.specs.declared.expr.Expr.{Expr}
use Rattle.loop_data.specs.declared.head.HeadLine.{HeadLine}
use Rattle.loop_data.specs.declared.value.ValueKind.{ValueKind}
use Rattle.legality_rules.specs.Scopes.{item_kind}
use Rattle.legality_rules.specs.Rules.{items_fit, repeated}
use Rattle.legality_lines.specs.declared.state.State.{State}
use Rattle.legality_names.specs.Answers.{and_then, leftmost}
use Rattle.legality_lines.specs.HeadChecks.{bound_head_checked, head_bound, known_head_checked}
use Rattle.legality_lines.specs.Kinds.{is_splittable_in}
use Rattle.legality_lines.specs.LineChecks.{Checked}
use Rattle.legality_names.specs.Names.{head_names, taken}

pub known_is : (reducers : List (List ℕ)) (h : HeadLine) (first : List Expr) (state after : State) (kind : Option ValueKind) (twice : Option (List ℕ)) (fits splittable : Bool) (r : Checked) →
    kind ≡ item_kind h.product h.axes → twice ≡ leftmost (repeated (taken state.bound state.sites) (head_names h)) → fits ≡ items_fit h.names kind → splittable ≡ list_all (is_splittable_in state.scope) first →
    Ok after ≡ head_bound reducers h kind state → r ≡ bound_head_checked reducers h twice fits splittable after → r ≡ known_head_checked reducers h first state
known_is reducers h first state after kind twice fits splittable r k t f s b e =
    let its : Option ValueKind = item_kind h.product h.axes in
    let name : Option (List ℕ) = leftmost (repeated (taken state.bound state.sites) (head_names h)) in
    let split : Bool = list_all (is_splittable_in state.scope) first in
    let tail : State → Checked = λ x. bound_head_checked reducers h name (items_fit h.names its) split x in
    e
    ∙ ap (λ z. bound_head_checked reducers h z fits splittable after) t
    ∙ ap (λ z. bound_head_checked reducers h name z splittable after) (f ∙ ap (items_fit h.names) k)
    ∙ ap (λ z. bound_head_checked reducers h name (items_fit h.names its) z after) s
    ∙ ap (λ z. and_then z tail) (b ∙ ap (λ z. head_bound reducers h z state) k)
