use Rattle.std.proofs.Common.{◌≡◌, drop}
use Rattle.program_words.specs.Words.{texts, first_missing}
use Rattle.program_words.proofs.request.first_missing.Given as goal

abbrev pub invariant-loop-setting : goal.invariant-loop-setting
invariant-loop-setting l = first_missing l.settings (texts l.words) ≡ first_missing (drop l.setting-index l.settings) (texts l.words)
