-- Texts that stand in the value itself and take no memory.
-- Source: this project.
use Rattle.std.specs.Prelude.{ℕ}

-- the most bytes of such a text
abbrev pub short_limit : ℕ
short_limit = 23
