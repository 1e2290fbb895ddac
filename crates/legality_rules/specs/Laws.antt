-- What holds of offences and legal programs. Each is the contract of a public function of this name.
-- Source: this project's language.
use Rattle.std.specs.Prelude.{◌≡◌, ◌↔◌, ℕ, List, [], Some, None, true}
use Rattle.std.specs.List.{list_all, AllByRecursion}
use Rattle.loop_grammar.specs.declared.tree.ProgramTree.{ProgramTree}
use Rattle.legality_rules.specs.Lines.{printed}
use Rattle.legality_rules.specs.Rules.{Outline, outline_of, Spot, Rule, rules, is_reducer, keeps_kinds}
use Rattle.legality_rules.specs.declared.refusal.Offence.{Offence}
use Rattle.legality_rules.specs.Offences.{IsLegal, IsFirstOffence, first_offence, spots_of}

-- what is computed is the first offence
abbrev pub FirstIsFirst : Type 0
FirstIsFirst = (program : ProgramTree) (o : Offence) → first_offence program ≡ Some o ↔ IsFirstOffence program o

-- a program has one first offence at most
abbrev pub OneFirst : Type 0
OneFirst = (program : ProgramTree) (o p : Offence) → IsFirstOffence program o → IsFirstOffence program p → o ≡ p

-- it has none exactly where it is legal
abbrev pub LegalHasNone : Type 0
LegalHasNone = (program : ProgramTree) → first_offence program ≡ None ↔ IsLegal program

-- the entry breaks none of these rules
abbrev pub KeepsRules : Outline → List (ℕ × Rule) → Spot → Type 0
KeepsRules outline some spot = AllByRecursion (λ rule. rule.1 outline spot ≡ []) some

-- a program is legal exactly where no entry of it breaks a rule
abbrev pub LegalBreaksNone : Type 0
LegalBreaksNone = (program : ProgramTree) →
    IsLegal program ↔ AllByRecursion (KeepsRules (outline_of program) rules) (spots_of program)

-- in a legal program each expression has a kind under the kinds of the names in scope, and all that stands on a line keeps to
-- the kinds
abbrev pub LegalKeepsKinds : Type 0
LegalKeepsKinds = (program : ProgramTree) → IsLegal program →
    AllByRecursion (λ spot. keeps_kinds spot spot.here.says ≡ true) (spots_of program)

-- a legal program prints reducers alone
abbrev pub LegalPrintsReducers : Type 0
LegalPrintsReducers = (program : ProgramTree) → IsLegal program →
    AllByRecursion (λ spot. list_all (is_reducer (outline_of program)) (printed spot.here.says) ≡ true) (spots_of program)
