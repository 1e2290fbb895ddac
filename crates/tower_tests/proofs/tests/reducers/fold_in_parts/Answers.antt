use Rattle.std.proofs.Common.{ℕ, List, take, drop, Result, Ok, Err, IfOk, take-append-drop, subst, length, length-drop, ◌≤◌, ◌-◌, arith}
use Rattle.std.proofs.lemmas.List.{take_all}
use Rattle.reducer_laws.specs.Standing.{TakesTogether}
use Rattle.tower_tests.proofs.tests.reducers.fold_in_parts.Goals as goal

-- what was merged of a list's two parts stands for the list
whole : {S I E : Type 0} (stands : S → List I → Type 0) (result : Result S E) (xs : List I) (cut : ℕ) (left right : S) →
    stands left (take cut xs) → stands right (drop cut xs) → IfOk result (TakesTogether stands left right) → IfOk result (λ state. stands state xs)
whole stands (Ok state) xs cut left right h k together = subst (stands state) (take-append-drop cut xs) (together (take cut xs) (drop cut xs) h k)
whole stands (Err e) xs cut left right h k together = tt

pub returns : goal.returns
returns g c =
    let xs = c.args.inputs.now in
    let cut = c.args.cut in
    let stands = g.R.Reducer.stands c.args.reducer.now in
    let long : length (drop cut xs) ≤ length xs - cut = omega (arith, length-drop cut xs) in
    whole stands c.merge.result xs cut c.in_ok-left.left c.in_ok-right.right
    c.in_ok-left.ensures
    (subst (stands c.in_ok-right.right) (take_all (length xs - cut) (drop cut xs) long) c.in_ok-right.ensures)
    c.merge.ensures.stands
