-- Which values fit a kind, which bindings fit the kinds of names, and which inputs fit a kind of tower.
-- Source: this project.
use Rattle.std.specs.Prelude.{◌≡◌, ℕ, ◌==◌, Bool, true, false, ◌&&◌, ◌||◌, not, List, [], ◌∷◌, length, Some, Ok, pos, int_lt}
use Rattle.std.specs.List.{list_all}
use Rattle.number_ranges.specs.Ranges.{most_items}
use Rattle.loop_data.specs.declared.value.Value.{Value, out-Value}
use Rattle.loop_data.specs.declared.value.Value.TheOpen.{Value-F, Value-F as v}
use Rattle.loop_data.specs.declared.value.Value.TheFolds.{fold-Value}
use Rattle.loop_data.specs.declared.value.ValueKind.{ValueKind}
use Rattle.loop_data.specs.declared.value.ValueKind.TheOpen.{ValueKind-F, ValueKind-F as k}
use Rattle.loop_data.specs.declared.value.ValueKind.TheFolds.{fold-ValueKind}
use Rattle.loop_data.specs.declared.tower.Kind.{Kind}
use Rattle.loop_data.specs.declared.tower.Kind.TheOpen.{Kind-F, Kind-F as t}
use Rattle.loop_data.specs.declared.tower.Kind.TheFolds.{fold-Kind}
use Rattle.loop_values.specs.Bindings.{Names}
use Rattle.loop_values.specs.Operations.{Outcome}
use Rattle.loop_data.specs.ValueParts.{parts_of, left_of, right_of}
use Rattle.loop_values.specs.Kinds.{Kinds, is_tuple_length}

-- ---- values and kinds

-- the values fit the kinds one by one
abbrev pub all_fit : List (Value → Bool) → List Value → Bool
all_fit [] [] = true
all_fit (f ∷ fs) (x ∷ xs) = f x && all_fit fs xs
all_fit _ _ = false

abbrev pub fits_at : ValueKind-F (Value → Bool) → Value-F Value → Value → Bool
fits_at k.Int (v.Int n) x = true
fits_at k.Bool (v.Bool b) x = true
fits_at k.Text (v.Text t) x = true
fits_at (k.Tuple fs) (v.Tuple xs) x = all_fit fs xs
fits_at (k.Maybe f) v.Nothing x = true
fits_at (k.Maybe f) _ x = f x
fits_at _ _ x = false

abbrev pub fits_step : ValueKind-F (Value → Bool) → Value → Bool
fits_step f x = fits_at f (out-Value x) x

-- a value that isn't nothing fits its own kind; nothing and each value that fits K fit Maybe of K
abbrev pub fits : ValueKind → Value → Bool
fits = fold-ValueKind (Value → Bool) fits_step

-- each name that has a kind is bound to a value that fits it
pub record Agree (names : Kinds) (env : Names) : Type 0 where
  pub values : (q : List ℕ) (x : ValueKind) → names q ≡ Some x → (v : Value) × (env q ≡ Some v) × (fits x v ≡ true)

-- the value, where there is one, fits the kind
pub record IsFit (x : ValueKind) (r : Outcome) : Type 0 where
  pub fit : (v : Value) → r ≡ Ok v → fits x v ≡ true

-- ---- inputs and kinds of tower

abbrev pub is_int_at : Value-F Value → Bool
is_int_at (v.Int n) = true
is_int_at _ = false

abbrev pub is_bool_at : Value-F Value → Bool
is_bool_at (v.Bool b) = true
is_bool_at _ = false

abbrev pub is_text_at : Value-F Value → Bool
is_text_at (v.Text t) = true
is_text_at _ = false

abbrev pub is_nothing_at : Value-F Value → Bool
is_nothing_at v.Nothing = true
is_nothing_at _ = false

-- a number that an item's place can be
abbrev pub is_place_at : Value-F Value → Bool
is_place_at (v.Int n) = int_lt (pos 0) n && not (int_lt (pos most_items) n)
is_place_at _ = false

-- a value of any kind but Maybe, given whether its parts are
abbrev pub plain_step : Value-F Bool → Bool
plain_step v.Nothing = false
plain_step (v.Tuple ps) = is_tuple_length (length ps) && list_all (λ p. p) ps
plain_step _ = true

abbrev pub is_plain : Value → Bool
is_plain = fold-Value Bool plain_step

abbrev pub is_pair : Value → Bool
is_pair x = length (parts_of x) == 2

-- an Int or a Text
abbrev pub is_extreme : Value → Bool
is_extreme x = is_int_at (out-Value x) || is_text_at (out-Value x)

-- a value with the place of its item
abbrev pub is_placed : Value → Bool
is_placed x = is_pair x && is_extreme (left_of x) && is_place_at (out-Value (right_of x))

-- one layer of a tower, given what fits its inner towers
abbrev pub input_step : Kind-F (Value → Bool) → Value → Bool
input_step t.Sum x = is_int_at (out-Value x)
input_step t.Prod x = is_int_at (out-Value x)
input_step t.Count x = is_nothing_at (out-Value x)
input_step t.Least x = is_extreme x
input_step t.Greatest x = is_extreme x
input_step t.LeastAt x = is_placed x
input_step t.GreatestAt x = is_placed x
input_step t.First x = is_plain x
input_step t.Last x = is_plain x
input_step t.Any x = is_bool_at (out-Value x)
input_step t.All x = is_bool_at (out-Value x)
input_step t.Listed x = is_plain x
input_step (t.Grouped f) x = is_pair x && is_text_at (out-Value (left_of x)) && f (right_of x)
input_step (t.Both f g) x = is_pair x && f (left_of x) && g (right_of x)

-- the input has the form and the kinds that the tower takes
abbrev pub fits_tower : Kind → Value → Bool
fits_tower = fold-Kind (Value → Bool) input_step
