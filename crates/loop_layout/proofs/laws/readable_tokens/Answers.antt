use Rattle.loop_layout.proofs.ReadableWords.{readable_words, readable_at_words, readable_signs}
use Rattle.loop_layout.proofs.ReadableTokens.{readable_texts, readable_numbers, readable_held}
use Rattle.loop_layout.proofs.laws.readable_tokens.Goals as goal

pub returns : goal.returns
returns c = record { words = readable_words; at_words = readable_at_words; signs = readable_signs; texts = readable_texts; numbers = readable_numbers; held = readable_held }
