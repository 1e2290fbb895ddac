-- Ends one of which gave a part, however many were tried.
-- Source: this project.
use Rattle.std.specs.Prelude.{◌≡◌, ◌⊎◌, List, [], ◌∷◌, map}
use Rattle.splittable.specs.Parts.{Stretch}
use Rattle.splittable.specs.Nodes.{IsNode}
use Rattle.part_deque.specs.Ends.{ThiefEnd, thief_end, after_steal}

-- an end, its misses aside
abbrev pub bare : ThiefEnd → ThiefEnd
bare t = thief_end t.deque t.lens t.least t.weight t.taken t.stolen 0

-- one of the ends stole a part, which is a node for it; of the others no more than the misses changed
abbrev pub GaveOne : List ThiefEnd → Stretch → List ThiefEnd → Type 0
GaveOne [] part new = ⊥
GaveOne (t ∷ ts) part [] = ⊥
GaveOne (t ∷ ts) part (n ∷ ns) =
    ((bare n ≡ bare (after_steal t part)) × (map bare ns ≡ map bare ts) × IsNode t.lens t.least part)
    ⊎ ((bare n ≡ bare t) × GaveOne ts part ns)
