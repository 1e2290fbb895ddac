-- The text of a value, as bytes. Texts are written as they are, without quotes.
-- Source: this project.
use Rattle.std.specs.Prelude.{ℕ, if◌then◌else◌, List, [], ◌∷◌, ◌++◌, codes}
use Rattle.std.specs.Fmt.{signed_decimal}
use Rattle.loop_data.specs.declared.value.Value.{Value}
use Rattle.loop_data.specs.declared.value.Value.TheOpen.{Value-F, Value-F as v}
use Rattle.loop_data.specs.declared.value.Value.TheFolds.{fold-Value}

-- a comma and a space between each two
abbrev pub separated : List (List ℕ) → List ℕ
separated [] = []
separated (t ∷ []) = t
separated (t ∷ u ∷ ts) = t ++ codes ", " ++ separated (u ∷ ts)

abbrev pub value_text_step : Value-F (List ℕ) → List ℕ
value_text_step (v.Int n) = signed_decimal n
value_text_step (v.Bool b) = if b then codes "true" else codes "false"
value_text_step (v.Text t) = t
value_text_step v.Nothing = codes "nothing"
value_text_step (v.Tuple ts) = codes "(" ++ separated ts ++ codes ")"

-- as `text` writes it, and a tuple as (A, B)
abbrev pub value_text : Value → List ℕ
value_text = fold-Value (List ℕ) value_text_step
