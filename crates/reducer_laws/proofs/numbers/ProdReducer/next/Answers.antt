use Rattle.std.proofs.Common.{w64, ap, ◌∙◌, ◌*ℤ◌, FitsSigned, subst, sym}
use Rattle.std.specs.Int.{int_wrap}
use Rattle.std.proofs.lemmas.Int.{wrapping_mul_is, SFits-int_wrap}
use Rattle.loop_results.specs.Results.{product_of}
use Rattle.reducer_laws.proofs.NumberLemmas.{wrapped-push}
use Rattle.reducer_laws.proofs.numbers.ProdReducer.next.Goals as goal

pub returns-clause-stands : goal.returns-clause-stands
returns-clause-stands c = λ xs stood.
    wrapping_mul_is w64 c.args.state.now c.args.input (subst (FitsSigned w64) (sym stood) (SFits-int_wrap w64 (product_of xs))) c.ranges.input
    ∙ ap (λ a. int_wrap w64 (a *ℤ c.args.input)) stood
    ∙ wrapped-push xs c.args.input
