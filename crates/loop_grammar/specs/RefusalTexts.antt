-- The text of a refusal of a loop file.
-- Source: this project's language.
use Rattle.std.specs.Prelude.{ℕ, List, ◌++◌, codes}
use Rattle.std.specs.Fmt.{decimal}
use Rattle.loop_grammar.specs.declared.refusal.SyntaxRefusal.{SyntaxRefusal}
use Rattle.loop_grammar.specs.declared.refusal.SyntaxRefusal.TheVariants as refusal

-- what a refusal is called
abbrev pub syntax_text : SyntaxRefusal → List ℕ
syntax_text (refusal.NotUtf8 n) = codes "byte " ++ decimal n ++ codes ": not UTF-8"
syntax_text (refusal.NotALine n) = codes "line " ++ decimal n ++ codes ": not a line of the language"
syntax_text (refusal.BadNesting n) = codes "line " ++ decimal n ++ codes ": bad nesting"
syntax_text (refusal.TooDeep n) = codes "line " ++ decimal n ++ codes ": too deep"
syntax_text (refusal.NumberTooWide n) = codes "line " ++ decimal n ++ codes ": number too wide"
syntax_text refusal.NoMemory = codes "out of memory"
