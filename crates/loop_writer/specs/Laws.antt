-- Laws of what is written.
-- Source: this project's language.
use Rattle.std.specs.Prelude.{ℕ, List}
use Rattle.loop_grammar.specs.declared.tree.ProgramTree.{ProgramTree}
use Rattle.loop_grammar.specs.Texts.{SpellsProgram}
use Rattle.loop_writer.specs.Programs.{canonical_text}

-- The canonical text of each program that some text spells is spelled as that program, line numbers
-- included, however long it is.
abbrev pub WrittenIsSpelled : Type 0
WrittenIsSpelled = (text : List ℕ) (program : ProgramTree) →
    SpellsProgram text program → SpellsProgram (canonical_text program) program
