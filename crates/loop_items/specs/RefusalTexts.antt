-- The texts of heads' refusals.
-- Source: this project.
use Rattle.std.specs.Fmt.{decimal}
use Rattle.std.specs.Prelude.{◌++◌, ℕ, List, codes}
use Rattle.number_ranges.specs.Ranges.{most_items}
use Rattle.loop_items.specs.declared.refusal.HeadRefusal.{HeadRefusal}
use Rattle.loop_items.specs.declared.refusal.HeadRefusal.TheVariants as refused

-- the text of a refusal
abbrev pub refusal_text : HeadRefusal → List ℕ
refusal_text (refused.NoSuchColumn name line) = codes "line " ++ decimal line ++ codes ": no column " ++ name
refusal_text (refused.ZeroStep line) = codes "line " ++ decimal line ++ codes ": step is zero"
refusal_text (refused.TooManyItems count line) =
    codes "line " ++ decimal line ++ codes ": " ++ decimal count ++ codes " items, at most " ++ decimal most_items
refusal_text refused.NoMemory = codes "out of memory"
