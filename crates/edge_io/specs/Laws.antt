-- What follows from the definitions of reads and of counts: statements of laws.
-- Source: this project.
use Rattle.std.specs.Prelude.{◌≡◌, ◌<◌, ℕ}
use Rattle.edge_io.specs.declared.files.ReadStop.{ReadStop}
use Rattle.edge_io.specs.Reading.{stop_number}
use Rattle.edge_io.specs.Counts.{Rose, RoseByOne, last_count}

-- each cause has a number of its own
abbrev pub NumbersTellCauses : Type 0
NumbersTellCauses = (one other : ReadStop) → stop_number one ≡ stop_number other → one ≡ other

-- a count that rose is larger than before, unless it stands at the last value of a counter
abbrev pub RisenCountsAreLarger : Type 0
RisenCountsAreLarger = (before now : ℕ) → now < last_count → Rose before now → before < now

-- a count that rose by one rose
abbrev pub CountsThatRoseByOneRose : Type 0
CountsThatRoseByOneRose = (before now : ℕ) → RoseByOne before now → Rose before now
