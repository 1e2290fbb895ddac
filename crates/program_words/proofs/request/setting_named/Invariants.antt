use Rattle.std.proofs.Common.{◌≡◌, drop}
use Rattle.program_words.specs.Words.{setting_named}
use Rattle.program_words.proofs.request.setting_named.Given as goal

abbrev pub invariant-loop-setting : goal.invariant-loop-setting
invariant-loop-setting l = setting_named l.settings l.name ≡ setting_named (drop l.setting-index l.settings) l.name
