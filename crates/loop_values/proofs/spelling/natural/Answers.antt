use Rattle.std.proofs.Common.{arith}
use Rattle.std.proofs.lemmas.Grind.{common_steps}
use Rattle.loop_values.proofs.SpellingLemmas.{natural_after-over}
use Rattle.loop_values.proofs.spelling.natural.Goals as goal

pub returns-then-n-gt9223372036854775808 : goal.returns-then-n-gt9223372036854775808
returns-then-n-gt9223372036854775808 c = grind (arith, common_steps, natural_after-over)
