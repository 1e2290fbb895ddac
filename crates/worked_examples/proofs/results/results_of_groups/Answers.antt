use Rattle.std.proofs.Common.{refl, ap, ◌∙◌}
use Rattle.std.specs.Fmt.{digits}
use Rattle.std.specs.Int.{int_wrap}
use Rattle.loop_results.specs.ResultTexts.{text_of_result}
use Rattle.loop_results.proofs.Layers.{value_text-Int}
use Rattle.worked_examples.proofs.Worked as worked
use Rattle.worked_examples.proofs.Worked.{value_text-Bool, value_text-pair}
use Rattle.worked_examples.proofs.results.results_of_groups.Goals as goal

pub returns-clause-sums : goal.returns-clause-sums
unfolding digits int_wrap
returns-clause-sums c = ap text_of_result worked.three_sums

pub returns-clause-lists : goal.returns-clause-lists
unfolding digits int_wrap
returns-clause-lists c = ap text_of_result worked.two_lists ∙ simp (value_text-Int) refl

pub returns-clause-both : goal.returns-clause-both
unfolding digits int_wrap
returns-clause-both c = ap text_of_result worked.two_boths

pub returns-clause-nested : goal.returns-clause-nested
unfolding digits int_wrap
returns-clause-nested c = ap text_of_result worked.nested_groups
