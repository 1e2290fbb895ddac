use Rattle.std.proofs.Common.{refl, ap, ◌∙◌}
use Rattle.std.specs.Fmt.{digits}
use Rattle.std.specs.Int.{int_wrap}
use Rattle.loop_results.specs.ResultTexts.{text_of_result}
use Rattle.loop_results.proofs.Layers as layer
use Rattle.loop_results.proofs.Layers.{value_text-Int, value_text-Text}
use Rattle.worked_examples.proofs.Worked as worked
use Rattle.worked_examples.proofs.Worked.{value_text-Bool, value_text-pair}
use Rattle.worked_examples.proofs.results.results_of_four_numbers.Goals as goal

pub returns-clause-sum : goal.returns-clause-sum
unfolding digits int_wrap
returns-clause-sum c = ap text_of_result (layer.result_of-Sum _)

pub returns-clause-product : goal.returns-clause-product
unfolding digits int_wrap
returns-clause-product c = ap text_of_result (layer.result_of-Prod _)

pub returns-clause-least : goal.returns-clause-least
unfolding digits int_wrap
returns-clause-least c = ap text_of_result worked.least_is_minus_9 ∙ value_text-Int _

pub returns-clause-greatest : goal.returns-clause-greatest
unfolding digits int_wrap
returns-clause-greatest c = ap text_of_result worked.greatest_is_4 ∙ value_text-Int _

pub returns-clause-first : goal.returns-clause-first
unfolding digits int_wrap
returns-clause-first c = ap text_of_result (layer.result_of-First _) ∙ value_text-Int _

pub returns-clause-last : goal.returns-clause-last
unfolding digits int_wrap
returns-clause-last c = ap text_of_result (layer.result_of-Last _) ∙ value_text-Int _

pub returns-clause-least_at : goal.returns-clause-least_at
unfolding digits int_wrap
returns-clause-least_at c = ap text_of_result worked.least_at_2 ∙ simp (value_text-Int) refl

pub returns-clause-greatest_at : goal.returns-clause-greatest_at
unfolding digits int_wrap
returns-clause-greatest_at c = ap text_of_result worked.greatest_at_2 ∙ simp (value_text-Int) refl

pub returns-clause-listed : goal.returns-clause-listed
unfolding digits int_wrap
returns-clause-listed c = ap text_of_result (layer.result_of-Listed _) ∙ simp (value_text-Int) refl
