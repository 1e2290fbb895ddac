use Rattle.std.proofs.Common.{◌≡◌, take, drop, []}
use Rattle.program_words.specs.Words.{texts}
use Rattle.program_words.specs.Requests.{first_refusal}
use Rattle.program_words.proofs.request.first_refusal.Given as goal

abbrev pub invariant-loop-place : goal.invariant-loop-place
invariant-loop-place l = first_refusal l.command [] (texts l.words) ≡ first_refusal l.command (texts (take l.place l.words)) (texts (drop l.place l.words))
