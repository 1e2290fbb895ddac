-- The reserved words and the at-words of the loop language.
-- Source: this project's language.
use Rattle.std.specs.Prelude.{ℕ, Bool, is_some, List, [], ◌∷◌, Option, Some, None, if◌then◌else◌, codes, bytes_eq, find}
use Rattle.loop_tokens.specs.declared.keyword.Keyword.{Keyword}
use Rattle.loop_tokens.specs.declared.keyword.Keyword.TheVariants as k
use Rattle.loop_tokens.specs.declared.keyword.AtWord.{AtWord}
use Rattle.loop_tokens.specs.declared.keyword.AtWord.TheVariants as a

-- the letters of a reserved word
abbrev pub keyword_text : Keyword → List ℕ
keyword_text k.Var = codes "var"
keyword_text k.For = codes "for"
keyword_text k.In = codes "in"
keyword_text k.Let = codes "let"
keyword_text k.If = codes "if"
keyword_text k.ElseIf = codes "elseif"
keyword_text k.Else = codes "else"
keyword_text k.End = codes "end"
keyword_text k.Continue = codes "continue"
keyword_text k.Break = codes "break"
keyword_text k.Print = codes "print"
keyword_text k.From = codes "from"
keyword_text k.Then = codes "then"
keyword_text k.And = codes "and"
keyword_text k.Or = codes "or"
keyword_text k.Not = codes "not"
keyword_text k.Div = codes "div"
keyword_text k.Rem = codes "rem"
keyword_text k.Mod = codes "mod"
keyword_text k.True = codes "true"
keyword_text k.False = codes "false"
keyword_text k.Nothing = codes "nothing"
keyword_text k.Place = codes "place"
keyword_text k.Abs = codes "abs"
keyword_text k.Min = codes "min"
keyword_text k.Max = codes "max"
keyword_text k.Len = codes "len"
keyword_text k.Int = codes "int"
keyword_text k.TryInt = codes "tryint"
keyword_text k.Text = codes "text"
keyword_text k.Col = codes "col"
keyword_text k.Zip = codes "zip"
keyword_text k.Product = codes "product"
keyword_text k.Sum = codes "sum"
keyword_text k.Prod = codes "prod"
keyword_text k.Count = codes "count"
keyword_text k.ArgMin = codes "argmin"
keyword_text k.ArgMax = codes "argmax"
keyword_text k.First = codes "first"
keyword_text k.Last = codes "last"
keyword_text k.Any = codes "any"
keyword_text k.All = codes "all"
keyword_text k.List = codes "list"
keyword_text k.Group = codes "group"
keyword_text k.Both = codes "both"

-- all reserved words
abbrev pub all_keywords : List Keyword
all_keywords = k.Var ∷ k.For ∷ k.In ∷ k.Let ∷ k.If ∷ k.ElseIf ∷ k.Else ∷ k.End ∷ k.Continue ∷ k.Break ∷ k.Print ∷ k.From ∷
    k.Then ∷ k.And ∷ k.Or ∷ k.Not ∷ k.Div ∷ k.Rem ∷ k.Mod ∷ k.True ∷ k.False ∷ k.Nothing ∷ k.Place ∷
    k.Abs ∷ k.Min ∷ k.Max ∷ k.Len ∷ k.Int ∷ k.TryInt ∷ k.Text ∷ k.Col ∷ k.Zip ∷ k.Product ∷
    k.Sum ∷ k.Prod ∷ k.Count ∷ k.ArgMin ∷ k.ArgMax ∷ k.First ∷ k.Last ∷ k.Any ∷ k.All ∷ k.List ∷ k.Group ∷ k.Both ∷ []

-- the reserved word that these bytes are
abbrev pub keyword_of : List ℕ → Option Keyword
keyword_of bs = find (λ w. bytes_eq (keyword_text w) bs) all_keywords

-- the characters of an at-word
abbrev pub at_text : AtWord → List ℕ
at_text a.Init = codes "@init"
at_text a.Keep = codes "@keep"
at_text a.Reduce = codes "@reduce"

-- the at-word that these bytes make behind an `@`
abbrev pub at_word_of : List ℕ → Option AtWord
at_word_of bs = if bytes_eq bs (codes "init") then Some a.Init else
    (if bytes_eq bs (codes "keep") then Some a.Keep else (if bytes_eq bs (codes "reduce") then Some a.Reduce else None))

abbrev pub is_at_word : List ℕ → Bool
is_at_word bs = is_some (at_word_of bs)
