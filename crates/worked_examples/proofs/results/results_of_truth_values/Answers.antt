use Rattle.std.proofs.Common.{ap}
use Rattle.std.specs.Fmt.{digits}
use Rattle.std.specs.Int.{int_wrap}
use Rattle.loop_results.specs.ResultTexts.{text_of_result}
use Rattle.loop_results.proofs.Layers as layer
use Rattle.loop_results.proofs.Layers.{value_text-Int, value_text-Text}
use Rattle.worked_examples.proofs.results.results_of_truth_values.Goals as goal

pub returns-clause-any : goal.returns-clause-any
unfolding digits int_wrap
returns-clause-any c = ap text_of_result (layer.result_of-Any _)

pub returns-clause-none : goal.returns-clause-none
unfolding digits int_wrap
returns-clause-none c = ap text_of_result (layer.result_of-Any _)

pub returns-clause-all : goal.returns-clause-all
unfolding digits int_wrap
returns-clause-all c = ap text_of_result (layer.result_of-All _)

pub returns-clause-not_all : goal.returns-clause-not_all
unfolding digits int_wrap
returns-clause-not_all c = ap text_of_result (layer.result_of-All _)

pub returns-clause-count : goal.returns-clause-count
unfolding digits int_wrap
returns-clause-count c = ap text_of_result (layer.result_of-Count _)
