-- Whether a program has the line `on fault skip`, and where it stands.
-- Source: this project's language.
use Rattle.std.specs.Prelude.{ℕ, Bool, is_some}
use Rattle.std.specs.Option.{unwrap_or}
use Rattle.loop_grammar.specs.declared.tree.ProgramTree.{ProgramTree}

-- whether an item that faults emits nothing and stops nothing
abbrev pub skips_faults : ProgramTree → Bool
skips_faults program = is_some program.skip_line

-- the number of the line, and 0 where there is none
abbrev pub skip_line : ProgramTree → ℕ
skip_line program = unwrap_or program.skip_line 0
