-- What follows from "as often", as statements.
-- Source: this project.
use Rattle.std.specs.Prelude.{◌≡◌, ℕ, Bool, List, length, filter, sum_by, IsPermutation}
use Rattle.splittable.specs.Parts.{Stretch, part_places}
use Rattle.as_often.specs.AsOften.{AreAsOften}

-- the same parts in another order are as often
abbrev pub OrderIsNoMatter : Type 0
OrderIsNoMatter = (xs ys : List Stretch) → IsPermutation xs ys → AreAsOften xs ys

-- lists that hold the same parts as often are as long
abbrev pub AsOftenIsAsLong : Type 0
AsOftenIsAsLong = (xs ys : List Stretch) → AreAsOften xs ys → length xs ≡ length ys

-- what parts are worth, where each place is worth so much
abbrev pub worth : (ℕ → ℕ) → List Stretch → ℕ
worth w parts = sum_by (λ part. sum_by w (part_places part)) parts

-- and they hold the same places as often
abbrev pub AsOftenHoldsPlaces : Type 0
AsOftenHoldsPlaces = (xs ys : List Stretch) → AreAsOften xs ys → (w : ℕ → ℕ) → worth w xs ≡ worth w ys

-- and as many of each pass a test, so that the test of being one part counts that part
abbrev pub AsOftenPassTests : Type 0
AsOftenPassTests = (xs ys : List Stretch) → AreAsOften xs ys → (test : Stretch → Bool) →
    length (filter test xs) ≡ length (filter test ys)
