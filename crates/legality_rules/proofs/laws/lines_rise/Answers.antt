use Rattle.legality_rules.proofs.RisingLemmas.{all_say_rises, program_rises}
use Rattle.legality_rules.proofs.laws.lines_rise.Goals as goal

pub returns : goal.returns
returns c = λ text program spelled. program_rises spelled.nests 1 (all_say_rises spelled.lines)
