-- Two lists that hold the same parts, each as often: the one definition for all that count parts.
-- Source: this project.
use Rattle.std.specs.Prelude.{◌≡◌, ℕ, List, sum_by}
use Rattle.splittable.specs.Parts.{Stretch}

-- however parts are weighed, the lists weigh the same
abbrev pub AreAsOften : List Stretch → List Stretch → Type 0
AreAsOften xs ys = (h : Stretch → ℕ) → sum_by h xs ≡ sum_by h ys
