-- The first and the last of a list.
-- Source: this project.
use Rattle.std.specs.Prelude.{List, [], ◌∷◌, Option, Some, None}

-- the first of a list, or none where it is empty
abbrev pub first_of : {T : Type 0} → List T → Option T
first_of [] = None
first_of (x ∷ _) = Some x

-- the last of a list, or none where it is empty
abbrev pub last_of : {T : Type 0} → List T → Option T
last_of [] = None
last_of (x ∷ []) = Some x
last_of (_ ∷ y ∷ xs) = last_of (y ∷ xs)
