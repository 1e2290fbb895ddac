-- Laws of texts and programs.
-- Source: this project.
use Rattle.std.specs.Prelude.{◌≡◌, ℕ, ◌≤◌, true, List}
use Rattle.std.specs.List.{count_by}
use Rattle.loop_tokens.specs.Limits.{is_no_parenthesis, most_open}
use Rattle.loop_grammar.specs.declared.line.Line.{Line}
use Rattle.loop_grammar.specs.declared.tree.ProgramTree.{ProgramTree}
use Rattle.loop_grammar.specs.declared.refusal.SyntaxRefusal.{SyntaxRefusal}
use Rattle.loop_grammar.specs.Texts.{SpellsProgram, FirstRefusal}
use Rattle.loop_grammar.specs.WellFormed.{is_form, is_well_formed}
use Rattle.loop_layout.specs.Layout.{tokens_in}
use Rattle.loop_layout.specs.Canonical.{line_marks}
use Rattle.loop_writer.specs.Programs.{canonical_text}

-- a text spells one program at most
abbrev pub OneProgram : Type 0
OneProgram = (text : List ℕ) (p q : ProgramTree) →
    SpellsProgram text p → SpellsProgram text q → p ≡ q

-- a text has one first refusal at most
abbrev pub OneRefusal : Type 0
OneRefusal = (text : List ℕ) (r also : SyntaxRefusal) →
    FirstRefusal text r → FirstRefusal text also → r ≡ also

-- no text is both spelled and refused
abbrev pub NeverBoth : Type 0
NeverBoth = (text : List ℕ) (p : ProgramTree) (r : SyntaxRefusal) →
    SpellsProgram text p → FirstRefusal text r → ⊥

-- no text is neither spelled nor refused
abbrev pub NeverNeither : Type 0
NeverNeither = (text : List ℕ) → ((p : ProgramTree) → SpellsProgram text p → ⊥) →
    ((r : SyntaxRefusal) → FirstRefusal text r → ⊥) → ⊥

-- every program is well formed
abbrev pub ProgramsAreWellFormed : Type 0
ProgramsAreWellFormed = (text : List ℕ) (p : ProgramTree) →
    SpellsProgram text p → is_well_formed p ≡ true

-- the canonical text of each well-formed tree spells that tree, line numbers included, however long
abbrev pub WellFormedIsSpelled : Type 0
WellFormedIsSpelled = (p : ProgramTree) →
    is_well_formed p ≡ true → SpellsProgram (canonical_text p) p

-- at no place of a canonical line are more parentheses open than the line has other tokens
abbrev pub FewParentheses : Type 0
FewParentheses = (form : Line) → is_form form ≡ true →
    most_open 0 (tokens_in (line_marks form)) ≤
    count_by is_no_parenthesis (tokens_in (line_marks form))
