use Rattle.std.proofs.Common.{refl, ap, ◌∙◌}
use Rattle.std.specs.Fmt.{digits}
use Rattle.std.specs.Int.{int_wrap}
use Rattle.loop_results.specs.ResultTexts.{text_of_result}
use Rattle.loop_results.proofs.Layers as layer
use Rattle.loop_results.proofs.Layers.{value_text-Int, value_text-Text}
use Rattle.worked_examples.proofs.Worked.{value_text-Bool, value_text-pair}
use Rattle.worked_examples.proofs.results.results_of_tuples.Goals as goal

pub returns-clause-pairs : goal.returns-clause-pairs
unfolding digits int_wrap
returns-clause-pairs c = ap text_of_result (layer.result_of-Listed _) ∙ simp (value_text-pair, value_text-Int) refl

pub returns-clause-nested : goal.returns-clause-nested
unfolding digits int_wrap
returns-clause-nested c = ap text_of_result (layer.result_of-First _) ∙ simp (value_text-pair, value_text-Text, value_text-Bool, value_text-Int) refl
