-- The texts of table refusals, without the words that a program puts before them to say which file it is.
-- Source: this project.
use Rattle.std.specs.Fmt.{decimal}
use Rattle.std.specs.Prelude.{◌++◌, ℕ, List, codes}
use Rattle.column_input.specs.declared.refusal.TableRefusal.{TableRefusal}
use Rattle.column_input.specs.declared.refusal.TableRefusal.TheVariants as refused

-- the text of a refusal
abbrev pub refusal_text : TableRefusal → List ℕ
refusal_text refused.NoHeader = codes "no header"
refusal_text (refused.NotUtf8 number) = codes "record " ++ decimal number ++ codes ": not UTF-8"
refusal_text (refused.Ragged number fields header) =
    codes "record " ++ decimal number ++ codes ": " ++ decimal fields ++ codes " fields, header has " ++ decimal header
refusal_text (refused.TooManyColumns columns) = decimal columns ++ codes " columns, at most 1024"
refusal_text (refused.TooManyFields number limit) = codes "over " ++ decimal limit ++ codes " fields"
refusal_text (refused.HeaderDiffers field) = codes "header differs at field " ++ decimal field
refusal_text refused.NoMemory = codes "out of memory"
