-- That a line can be taken apart in one way alone, whatever follows it.
-- Source: this project.
use Rattle.std.specs.Prelude.{◌≡◌, ℕ, List, ◌++◌}
use Rattle.scan_lines.specs.Fields.{line_text}

-- where two texts that begin with a line are the same, so are the lines' fields and what follows them
abbrev pub LinesAreReadInOneWay : Type 0
LinesAreReadInOneWay =
    (first first' : List ℕ) (more more' : List (List ℕ)) (rest rest' : List ℕ) →
    line_text first more ++ rest ≡ line_text first' more' ++ rest' → (first ≡ first') × (more ≡ more') × (rest ≡ rest')
