use Rattle.std.proofs.Common.{w64, ap₂, ◌∙◌, ◌*ℤ◌}
use Rattle.std.specs.Int.{int_wrap}
use Rattle.std.proofs.lemmas.Int.{wrapping_mul_is}
use Rattle.reducer_laws.proofs.NumberLemmas.{wrapped-append}
use Rattle.reducer_laws.proofs.numbers.ProdReducer.merge.Goals as goal

pub returns-clause-stands : goal.returns-clause-stands
returns-clause-stands c = λ xs ys left right.
    wrapping_mul_is w64 c.args.left c.args.right c.ranges.left c.ranges.right
    ∙ ap₂ (λ a b. int_wrap w64 (a *ℤ b)) left right
    ∙ wrapped-append xs ys
