use Rattle.std.proofs.Common.{ap, []}
use Rattle.std.specs.Fmt.{digits}
use Rattle.std.specs.Int.{int_wrap}
use Rattle.loop_data.specs.declared.tower.Kind.TheVariants as kind
use Rattle.loop_results.specs.ResultTexts.{text_of_result}
use Rattle.loop_results.proofs.Layers as layer
use Rattle.loop_results.proofs.Layers.{value_text-Int, value_text-Text}
use Rattle.worked_examples.proofs.Worked as worked
use Rattle.worked_examples.proofs.Worked.{value_text-Bool, value_text-pair}
use Rattle.worked_examples.proofs.results.results_of_no_input.Goals as goal

pub returns-clause-sum : goal.returns-clause-sum
unfolding digits int_wrap
returns-clause-sum c = ap text_of_result (layer.result_of-Sum [])

pub returns-clause-product : goal.returns-clause-product
unfolding digits int_wrap
returns-clause-product c = ap text_of_result (layer.result_of-Prod [])

pub returns-clause-count : goal.returns-clause-count
unfolding digits int_wrap
returns-clause-count c = ap text_of_result (layer.result_of-Count [])

pub returns-clause-least : goal.returns-clause-least
unfolding digits int_wrap
returns-clause-least c = ap text_of_result (layer.result_of-Least [])

pub returns-clause-greatest : goal.returns-clause-greatest
unfolding digits int_wrap
returns-clause-greatest c = ap text_of_result (layer.result_of-Greatest [])

pub returns-clause-least_at : goal.returns-clause-least_at
unfolding digits int_wrap
returns-clause-least_at c = ap text_of_result (layer.result_of-LeastAt [])

pub returns-clause-greatest_at : goal.returns-clause-greatest_at
unfolding digits int_wrap
returns-clause-greatest_at c = ap text_of_result (layer.result_of-GreatestAt [])

pub returns-clause-first : goal.returns-clause-first
unfolding digits int_wrap
returns-clause-first c = ap text_of_result (layer.result_of-First [])

pub returns-clause-last : goal.returns-clause-last
unfolding digits int_wrap
returns-clause-last c = ap text_of_result (layer.result_of-Last [])

pub returns-clause-any : goal.returns-clause-any
unfolding digits int_wrap
returns-clause-any c = ap text_of_result (layer.result_of-Any [])

pub returns-clause-all : goal.returns-clause-all
unfolding digits int_wrap
returns-clause-all c = ap text_of_result (layer.result_of-All [])

pub returns-clause-listed : goal.returns-clause-listed
unfolding digits int_wrap
returns-clause-listed c = ap text_of_result (layer.result_of-Listed [])

pub returns-clause-grouped : goal.returns-clause-grouped
unfolding digits int_wrap
returns-clause-grouped c = ap text_of_result (layer.result_of-Grouped [] kind.Sum)

pub returns-clause-both : goal.returns-clause-both
unfolding digits int_wrap
returns-clause-both c = ap text_of_result worked.no_both
