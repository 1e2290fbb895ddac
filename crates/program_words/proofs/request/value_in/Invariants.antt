use Rattle.std.proofs.Common.{◌≡◌, drop}
use Rattle.program_words.specs.Words.{texts, value_in}
use Rattle.program_words.proofs.request.value_in.Given as goal

abbrev pub invariant-loop-word : goal.invariant-loop-word
invariant-loop-word l = value_in l.name (texts l.words) ≡ value_in l.name (texts (drop l.word-index l.words))
