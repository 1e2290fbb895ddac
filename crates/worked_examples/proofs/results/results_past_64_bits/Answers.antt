use Rattle.std.proofs.Common.{ap}
use Rattle.std.specs.Fmt.{digits}
use Rattle.std.specs.Int.{int_wrap}
use Rattle.loop_results.specs.ResultTexts.{text_of_result}
use Rattle.loop_results.proofs.Layers as layer
use Rattle.loop_results.proofs.Layers.{value_text-Int, value_text-Text}
use Rattle.worked_examples.proofs.results.results_past_64_bits.Goals as goal

pub returns-clause-sum : goal.returns-clause-sum
unfolding digits int_wrap
returns-clause-sum c = ap text_of_result (layer.result_of-Sum _)

pub returns-clause-product : goal.returns-clause-product
unfolding digits int_wrap
returns-clause-product c = ap text_of_result (layer.result_of-Prod _)
