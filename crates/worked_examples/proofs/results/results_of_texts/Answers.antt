use Rattle.std.proofs.Common.{refl, ap, ◌∙◌}
use Rattle.std.specs.Fmt.{digits}
use Rattle.std.specs.Int.{int_wrap}
use Rattle.loop_results.specs.ResultTexts.{text_of_result}
use Rattle.loop_results.proofs.Layers as layer
use Rattle.loop_results.proofs.Layers.{value_text-Int, value_text-Text}
use Rattle.worked_examples.proofs.Worked as worked
use Rattle.worked_examples.proofs.Worked.{value_text-Bool, value_text-pair}
use Rattle.worked_examples.proofs.results.results_of_texts.Goals as goal

pub returns-clause-least : goal.returns-clause-least
unfolding digits int_wrap
returns-clause-least c = ap text_of_result worked.least_is_B ∙ value_text-Text _

pub returns-clause-greatest : goal.returns-clause-greatest
unfolding digits int_wrap
returns-clause-greatest c = ap text_of_result worked.greatest_is_ba ∙ value_text-Text _

pub returns-clause-greatest_at : goal.returns-clause-greatest_at
unfolding digits int_wrap
returns-clause-greatest_at c = ap text_of_result worked.b_at_6 ∙ simp (value_text-Text) refl

pub returns-clause-listed : goal.returns-clause-listed
unfolding digits int_wrap
returns-clause-listed c = ap text_of_result (layer.result_of-Listed _) ∙ simp (value_text-Text) refl
