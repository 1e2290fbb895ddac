-- The texts of refused words.
-- Source: this project.
use Rattle.std.specs.Prelude.{ℕ, List, ◌++◌, codes}
use Rattle.program_words.specs.declared.refusal.Refusal.{Refusal}
use Rattle.program_words.specs.declared.refusal.Refusal.TheVariants as refusal
use Rattle.program_words.specs.Settings.{setting_name}

-- what a refusal is called
abbrev pub refusal_text : Refusal → List ℕ
refusal_text refusal.NotServed = codes "not served here"
refusal_text refusal.Usage = codes "usage: floop check, explain, run, pool or try, then name=value"
refusal_text (refusal.UnknownCommand word) = codes "unknown command: " ++ word.now
refusal_text (refusal.NotASetting word) = codes "not a setting: " ++ word.now
refusal_text (refusal.UnknownSetting name) = codes "unknown setting: " ++ name.now
refusal_text (refusal.SettingTwice setting) = codes "setting twice: " ++ setting_name setting
refusal_text (refusal.BadValue word) = codes "bad value: " ++ word.now
refusal_text (refusal.MissingSetting setting) = codes "missing setting: " ++ setting_name setting
