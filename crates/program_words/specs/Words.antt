-- Words as lists of bytes: what they name, and which values they give.
-- Source: this project.
use Rattle.std.specs.Prelude.{ℕ, Bool, List, [], ◌∷◌, ◌==◌, map, find, bytes_eq, is_none, Option, Some, None, if◌then◌else◌}
use Rattle.std.specs.Prelude.{String, string_bytes}
use Rattle.std.specs.Option.{option_map}
use Rattle.program_words.specs.declared.setting.Setting.{Setting}
use Rattle.program_words.specs.Settings.{setting_name}

-- the words as lists of bytes
abbrev pub texts : {A : Type 0} → List (String A) → List (List ℕ)
texts words = map string_bytes words

abbrev pub after : ℕ → List ℕ × List ℕ → List ℕ × List ℕ
after b parts = (b ∷ parts.0, parts.1)

-- a word cut at its first `=`, whose code is 61: what stands before it, and what behind
abbrev pub cut : List ℕ → Option (List ℕ × List ℕ)
cut [] = None
cut (b ∷ bs) = if b == 61 then Some ([], bs) else option_map (after b) (cut bs)

-- the value that the parts of a word give to the setting of this name
abbrev pub value_at : List ℕ → Option (List ℕ × List ℕ) → Option (List ℕ)
value_at name None = None
value_at name (Some parts) = if bytes_eq parts.0 name then Some parts.1 else None

-- the first value, if there is one, else the other
abbrev pub first_of : {A : Type 0} → Option A → Option A → Option A
first_of (Some x) other = Some x
first_of None other = other

-- the value that the first of these words that does gives to the setting of this name
abbrev pub value_in : List ℕ → List (List ℕ) → Option (List ℕ)
value_in name [] = None
value_in name (word ∷ words) = first_of (value_at name (cut word)) (value_in name words)

-- the first of these settings that has this name
abbrev pub setting_named : List Setting → List ℕ → Option Setting
setting_named settings name = find (λ s. bytes_eq (setting_name s) name) settings

-- whether no word gives the setting
abbrev pub is_missing : List (List ℕ) → Setting → Bool
is_missing words s = is_none (value_in (setting_name s) words)

-- the first of these settings that no word gives
abbrev pub first_missing : List Setting → List (List ℕ) → Option Setting
first_missing settings words = find (is_missing words) settings
