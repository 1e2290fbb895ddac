use Rattle.stop_word.proofs.Reached.{never_rises}
use Rattle.stop_word.proofs.laws.the_word_never_rises.Goals as goal

pub returns : goal.returns
returns c = never_rises
