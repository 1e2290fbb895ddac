-- The text of a tower's result, as bytes. Texts are written as they are, without quotes.
-- Source: this project.
use Rattle.std.specs.Prelude.{ℕ, if◌then◌else◌, List, [], ◌∷◌, ◌++◌, map, codes, Option, Some, None, ℤ}
use Rattle.std.specs.Fmt.{signed_decimal}
use Rattle.loop_data.specs.declared.value.Value.{Value}
use Rattle.loop_data.specs.ValueTexts.{separated, value_text}
use Rattle.loop_data.specs.declared.tower.Kind.{Kind}
use Rattle.loop_results.specs.Results.{TowerResult, GroupResults, number, truth, found, found_at, listed, grouped, both}
use Rattle.loop_results.specs.Results.{no_more, group, result_of}

abbrev pub found_text : Option Value → List ℕ
found_text (Some x) = value_text x
found_text None = codes "nothing"

abbrev pub found_at_text : Option (Value × ℤ) → List ℕ
found_at_text (Some x) = value_text x.0 ++ codes " at " ++ signed_decimal x.1
found_at_text None = codes "nothing"

abbrev mutual
  pub text_of_result : TowerResult → List ℕ
  text_of_result (number n) = signed_decimal n
  text_of_result (truth b) = if b then codes "true" else codes "false"
  text_of_result (found x) = found_text x
  text_of_result (found_at x) = found_at_text x
  text_of_result (listed xs) = codes "[" ++ separated (map value_text xs) ++ codes "]"
  text_of_result (grouped gs) = codes "{" ++ separated (group_texts gs) ++ codes "}"
  text_of_result (both l r) = codes "(" ++ separated (text_of_result l ∷ text_of_result r ∷ []) ++ codes ")"

  -- each as K: R
  pub group_texts : GroupResults → List (List ℕ)
  group_texts no_more = []
  group_texts (group k r gs) = (k ++ codes ": " ++ text_of_result r) ∷ group_texts gs

-- the text of what a tower's inputs come to
abbrev pub result_text : Kind → List Value → List ℕ
result_text kind inputs = text_of_result (result_of kind inputs)
