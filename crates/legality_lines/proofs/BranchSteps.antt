-- The check of the branches of an `if`, one branch further.
use Rattle.std.proofs.Common.{◌≡◌, ℕ, ◌<◌, ◌+◌, Bool, false, List, ◌∷◌, Ok, drop, get_or, length, map, sym, ap, ◌∙◌}
use Rattle.std.proofs.lemmas.List.{drop_more}
use Rattle.loop_data.specs.declared.statement.Branch.{Branch}
use Rattle.legality_lines.specs.declared.state.State.{State}
use Rattle.legality_names.specs.Answers.{and_then}
use Rattle.legality_lines.specs.LineChecks.{Checked}
use Rattle.legality_lines.specs.Walks.{branch_checked, branches_checked}

pub next_branch : (reducers : List (List ℕ)) (branches : List Branch) (i : ℕ) (b : Branch) (first : Bool) (state after : State) (whole : Checked) →
    i < length branches → b ≡ get_or branches i b → branches_checked (map (branch_checked reducers) (drop i branches)) first state ≡ whole →
    Ok after ≡ branch_checked reducers b first state → branches_checked (map (branch_checked reducers) (drop (i + 1) branches)) false after ≡ whole
next_branch reducers branches i b first state after whole lt is e ok =
    let here : drop i branches ≡ b ∷ drop (i + 1) branches = drop_more branches i b lt ∙ ap (λ x. x ∷ drop (i + 1) branches) (sym is) in
    let from : List Branch → Checked = λ bs. branches_checked (map (branch_checked reducers) bs) first state in
    let rest : State → Checked = branches_checked (map (branch_checked reducers) (drop (i + 1) branches)) false in
    ap (λ r. and_then r rest) ok ∙ sym (ap from here) ∙ e
