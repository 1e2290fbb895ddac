use Rattle.loop_tokens.proofs.WordsBack.{words_read_back, signs_read_back}
use Rattle.loop_tokens.proofs.laws.words_read_back.Goals as goal

pub returns : goal.returns
returns c = record { words = words_read_back; signs = signs_read_back }
