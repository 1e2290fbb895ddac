-- The text of a tuple, part by part.
use Rattle.std.proofs.Common.{◌≡◌, ◌++◌, ℕ, List, [], ◌∷◌, map, refl, rules, append_assoc}
use Rattle.std.specs.Prelude.{codes}
use Rattle.loop_data.specs.declared.value.Value.{Value, the_lemmas}
use Rattle.loop_data.specs.declared.value.Value.TheVariants as value
use Rattle.loop_data.specs.ValueTexts.{separated, value_text}

-- what stands between the parts so far and the next one
abbrev pub between_after : {X : Type 0} → List X → List ℕ
between_after [] = []
between_after (_ ∷ _) = codes ", "

pub between_after-last : {X : Type 0} (xs : List X) (x : X) → between_after (xs ++ x ∷ []) ≡ codes ", "
between_after-last [] x = refl
between_after-last (y ∷ xs) x = refl

-- one more part
pub separated-last : {X : Type 0} (f : X → List ℕ) (xs : List X) (x : X) → separated (map f (xs ++ x ∷ [])) ≡ separated (map f xs) ++ between_after xs ++ f x
separated-last f [] x = refl
separated-last f (y ∷ []) x = refl
separated-last f (y ∷ z ∷ xs) x = rw (separated-last f (z ∷ xs) x) (simp append_assoc refl)

pub value_text-Tuple : (xs : List Value) → value_text (value.Tuple xs) ≡ codes "(" ++ separated (map value_text xs) ++ codes ")"
value_text-Tuple xs = search (rules, the_lemmas)
