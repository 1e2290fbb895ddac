-- The inputs of worked examples, and short names for their parts.
-- Source: this project.
use Rattle.std.specs.Prelude.{ℕ, Bool, true, false, List, [], ◌∷◌, codes, pos, neg_ℤ}
use Rattle.loop_data.specs.declared.value.Value.{Value}
use Rattle.loop_data.specs.declared.value.Value.TheVariants as value

abbrev pub int : ℕ → Value
int n = value.Int (pos n)

abbrev pub minus : ℕ → Value
minus n = value.Int (neg_ℤ (pos n))

abbrev pub truth : Bool → Value
truth b = value.Bool b

abbrev pub text : List ℕ → Value
text t = value.Text t

abbrev pub pair : Value → Value → Value
pair x y = value.Tuple (x ∷ y ∷ [])

-- ---- numbers and truth values

abbrev pub four_numbers : List Value
four_numbers = int 3 ∷ minus 9 ∷ int 4 ∷ minus 9 ∷ []

-- the same at the places 1 to 4
abbrev pub four_at_places : List Value
four_at_places = pair (int 3) (int 1) ∷ pair (minus 9) (int 2) ∷ pair (int 4) (int 3) ∷ pair (minus 9) (int 4) ∷ []

-- the same without their signs
abbrev pub unsigned_at_places : List Value
unsigned_at_places = pair (int 3) (int 1) ∷ pair (int 9) (int 2) ∷ pair (int 4) (int 3) ∷ pair (int 9) (int 4) ∷ []

-- the largest number of 64 bits
abbrev pub largest_twice : List Value
largest_twice = int 9223372036854775807 ∷ int 9223372036854775807 ∷ []

abbrev pub false_and_true : List Value
false_and_true = truth false ∷ truth true ∷ []

abbrev pub false_twice : List Value
false_twice = truth false ∷ truth false ∷ []

abbrev pub true_twice : List Value
true_twice = truth true ∷ truth true ∷ []

abbrev pub three_of_nothing : List Value
three_of_nothing = value.Nothing ∷ value.Nothing ∷ value.Nothing ∷ []

-- ---- texts and tuples

abbrev pub three_texts : List Value
three_texts = text (codes "b") ∷ text (codes "B") ∷ text (codes "ba") ∷ []

-- equal texts, the one at the greater place before the other
abbrev pub texts_at_places : List Value
texts_at_places = pair (text (codes "b")) (int 7) ∷ pair (text (codes "a")) (int 5) ∷ pair (text (codes "b")) (int 6) ∷ []

-- a text with quotes in it, and the empty one
abbrev pub quoted_and_empty : List Value
quoted_and_empty = text (codes "a \"b\"") ∷ text [] ∷ []

abbrev pub three_pairs : List Value
three_pairs = pair (int 1) (int 1) ∷ pair (int 2) (int 1) ∷ pair (int 2) (int 2) ∷ []

abbrev pub pair_in_pair : List Value
pair_in_pair = pair (pair (text (codes "a")) (truth true)) (int 1) ∷ []

-- ---- inputs under keys

abbrev pub sales : List Value
sales =
    pair (text (codes "north")) (int 10) ∷ pair (text (codes "b")) (int 5)
    ∷ pair (text (codes "B")) (int 1) ∷ pair (text (codes "north")) (int 7) ∷ []

abbrev pub three_keyed : List Value
three_keyed = pair (text (codes "b")) (int 2) ∷ pair (text (codes "a")) (int 5) ∷ pair (text (codes "b")) (int 1) ∷ []

-- a number to sum, and nothing to count, under each key
abbrev pub two_keyed_pairs : List Value
two_keyed_pairs =
    pair (text (codes "r7")) (pair (int 975) value.Nothing)
    ∷ pair (text (codes "r0")) (pair (int 553) value.Nothing) ∷ []

-- keys under keys
abbrev pub three_keyed_twice : List Value
three_keyed_twice =
    pair (text (codes "b")) (pair (text (codes "y")) (int 2))
    ∷ pair (text (codes "a")) (pair (text (codes "x")) (int 5))
    ∷ pair (text (codes "b")) (pair (text (codes "x")) (int 1)) ∷ []
