-- The last of two lists together.
use Rattle.std.proofs.Common.{◌≡◌, List, [], ◌∷◌, ◌++◌, Option, Some, refl, sym, ap, ◌∙◌, append-nil}
use Rattle.std.specs.Option.{option_or}
use Rattle.loop_results.specs.Ends.{last_of}

module _ {T : Type 0} where
  -- a list that isn't empty decides
  pub last_of-append_cons : (xs : List T) (y : T) (ys : List T) → last_of (xs ++ y ∷ ys) ≡ last_of (y ∷ ys)
  last_of-append_cons [] y ys = refl
  last_of-append_cons (x ∷ []) y ys = refl
  last_of-append_cons (x ∷ z ∷ xs) y ys = last_of-append_cons (z ∷ xs) y ys

  pub last_of-push : (xs : List T) (y : T) → last_of (xs ++ y ∷ []) ≡ Some y
  last_of-push xs y = last_of-append_cons xs y []

  -- such a list has a last, which no default replaces
  kept : (y : T) (ys : List T) (other : Option T) → option_or (last_of (y ∷ ys)) other ≡ last_of (y ∷ ys)
  kept y [] other = refl
  kept y (z ∷ ys) other = kept z ys other

  pub last_of-append : (xs ys : List T) → last_of (xs ++ ys) ≡ option_or (last_of ys) (last_of xs)
  last_of-append xs [] = ap last_of (append-nil xs)
  last_of-append xs (y ∷ ys) = last_of-append_cons xs y ys ∙ sym (kept y ys (last_of xs))
