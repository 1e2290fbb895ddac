use Rattle.std.proofs.Common.{ℤ, ◌++◌, subst, sym}
use Rattle.reducer_laws.specs.Numbers.{IsSum}
use Rattle.reducer_laws.proofs.NumberLemmas.{merge_fits, added, added_fits, sum_merge}
use Rattle.reducer_laws.proofs.numbers.SumReducer.merge.Goals as goal

pub overflow_add-result : goal.overflow_add-result
overflow_add-result c =
    let (xs, ys, left, right, few) = c.requires.room in
    added_fits c.args.left c.args.right c.ranges.left c.ranges.right (merge_fits c.args.left c.args.right xs ys left right few)

pub returns-clause-stands : goal.returns-clause-stands
returns-clause-stands c = λ xs' ys' h k.
    let (xs, ys, left, right, few) = c.requires.room in
    let total = added c.args.left c.args.right c.ranges.left c.ranges.right (merge_fits c.args.left c.args.right xs ys left right few) in
    let P : ℤ → Type 0 = λ t. IsSum t (xs' ++ ys') in
    subst P (sym total) (sum_merge c.args.left c.args.right xs' ys' h k)
