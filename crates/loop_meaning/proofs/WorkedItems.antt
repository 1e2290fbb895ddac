-- Items worked by hand, against the definitions, by computation.
use Rattle.std.proofs.Common.{◌≡◌, ℕ, List, [], ◌∷◌, codes, refl}
use Rattle.std.specs.Prelude.{pos, negsuc}
use Rattle.number_ranges.specs.Ranges.{items_from}
use Rattle.loop_data.specs.declared.value.Value.{Value}
use Rattle.loop_data.specs.declared.value.Value.TheVariants as value
use Rattle.loop_meaning.specs.Items.{combinations, numbers, side_by_side}
use Rattle.loop_meaning.specs.Reducers.{each_once}

abbrev int : ℕ → Value
int n = value.Int (pos n)

abbrev text : List ℕ → Value
text t = value.Text t

abbrev row : Value → Value → List Value
row x y = x ∷ y ∷ []

-- product(1:2, 1:3): the first axis changes fastest
first_fastest : combinations ((int 1 ∷ int 2 ∷ []) ∷ (int 1 ∷ int 2 ∷ int 3 ∷ []) ∷ []) ≡ row (int 1) (int 1) ∷ row (int 2) (int 1) ∷ row (int 1) (int 2) ∷ row (int 2) (int 2) ∷ row (int 1) (int 3) ∷ row (int 2) (int 3) ∷ []
first_fastest = refl

-- an empty axis
no_combination : combinations ((int 1 ∷ int 2 ∷ []) ∷ [] ∷ []) ≡ []
no_combination = refl

-- zip(1:5, col("a")) over three rows
up_to_the_shortest : side_by_side ((int 1 ∷ int 2 ∷ int 3 ∷ int 4 ∷ int 5 ∷ []) ∷ (text (codes "x") ∷ text (codes "y") ∷ text (codes "z") ∷ []) ∷ []) ≡ row (int 1) (text (codes "x")) ∷ row (int 2) (text (codes "y")) ∷ row (int 3) (text (codes "z")) ∷ []
up_to_the_shortest = refl

no_row : side_by_side ((int 1 ∷ []) ∷ [] ∷ (int 2 ∷ []) ∷ []) ≡ []
no_row = refl

-- 10:-3:1, 1:2:9, 5:1 and a step of 0
down : numbers (pos 10) (negsuc 2) (pos 1) ≡ pos 10 ∷ pos 7 ∷ pos 4 ∷ pos 1 ∷ []
unfolding items_from
down = refl

odd : numbers (pos 1) (pos 2) (pos 9) ≡ pos 1 ∷ pos 3 ∷ pos 5 ∷ pos 7 ∷ pos 9 ∷ []
unfolding items_from
odd = refl

behind : numbers (pos 5) (pos 1) (pos 1) ≡ []
unfolding items_from
behind = refl

no_step : numbers (pos 1) (pos 0) (pos 5) ≡ []
no_step = refl

-- names in the order of their first lines
first_sites : each_once (codes "g" ∷ codes "f" ∷ codes "g" ∷ []) ≡ codes "g" ∷ codes "f" ∷ []
first_sites = refl
