use Rattle.std.proofs.Common.{◌≡◌, drop, bytes_eq, find}
use Rattle.loop_tokens.specs.Keywords.{keyword_text}
use Rattle.loop_tokens.proofs.keyword.find_keyword.Given as goal

abbrev pub invariant-loop-word : goal.invariant-loop-word
invariant-loop-word l = find (λ w. bytes_eq (keyword_text w) l.name) l.words ≡ find (λ w. bytes_eq (keyword_text w) l.name) (drop l.word-index l.words)
