-- The offences of a program, the first of them, and legal programs.
-- Source: this project's language.
use Rattle.std.specs.Prelude.{◌≡◌, ℕ, ◌==◌, nat_lt, Bool, true, ◌&&◌, ◌||◌, if◌then◌else◌, List, [], ◌∷◌, ◌++◌, not, map}
use Rattle.std.specs.Prelude.{flat_map, Option, Some, None}
use Rattle.std.specs.List.{list_all}
use Rattle.loop_grammar.specs.declared.tree.ProgramTree.{ProgramTree}
use Rattle.legality_rules.specs.declared.refusal.Offence.{Offence}
use Rattle.legality_rules.specs.Lines.{Entry, entries_of}
use Rattle.legality_rules.specs.Rules.{Outline, outline_of, Spot, Rule, rules}

-- each of the entries with those before it
abbrev pub spots_after : List Entry → List Entry → List Spot
spots_after earlier [] = []
spots_after earlier (entry ∷ entries) = record { earlier = earlier; here = entry } ∷ spots_after (earlier ++ entry ∷ []) entries

abbrev pub offence : ℕ → Spot → List ℕ → Offence
offence number spot name = record { number = number; line = spot.here.line; name = name }

-- the offences against one rule at an entry, from left to right
abbrev pub offences_against : Outline → Spot → ℕ × Rule → List Offence
offences_against outline spot rule = map (offence rule.0 spot) (rule.1 outline spot)

abbrev pub offences_at : Outline → Spot → List Offence
offences_at outline spot = flat_map (offences_against outline spot) rules

-- the offences of entries, told those before them
abbrev pub offences_after : Outline → List Entry → List Entry → List Offence
offences_after outline earlier entries = flat_map (offences_at outline) (spots_after earlier entries)

abbrev pub offences_in : Outline → List Offence
offences_in outline = offences_after outline [] outline.entries

-- all entries of a program, each with those before it
abbrev pub spots_of : ProgramTree → List Spot
spots_of program = spots_after [] (entries_of program)

-- all offences of a program; those of one rule on one line stand in the order of their names on the line
abbrev pub offences_of : ProgramTree → List Offence
offences_of program = offences_in (outline_of program)

-- no line breaks a rule
abbrev pub IsLegal : ProgramTree → Type 0
IsLegal program = offences_of program ≡ []

-- whether an offence comes before another: its line is less, or the lines are one and its number is less
abbrev pub precedes : Offence → Offence → Bool
precedes o p = nat_lt o.line p.line || (o.line == p.line && nat_lt o.number p.number)

-- One of these offences is the first: whatever stands before it in the list has a later line or number, and nothing after it
-- has an earlier one.
pub record IsFirst (offences : List Offence) (o : Offence) : Type 0 where
  pub before : List Offence
  pub rest : List Offence
  pub stands : offences ≡ before ++ o ∷ rest
  pub is_earlier : list_all (precedes o) before ≡ true
  pub none_earlier : list_all (λ p. not (precedes p o)) rest ≡ true

-- the first offence of a program: the least line that breaks a rule, the least number there, and the leftmost name
abbrev pub IsFirstOffence : ProgramTree → Offence → Type 0
IsFirstOffence program o = IsFirst (offences_of program) o

abbrev pub or_earlier : Offence → Option Offence → Offence
or_earlier o None = o
or_earlier o (Some p) = if precedes p o then p else o

-- the first of these, on a tie the one further left
abbrev pub first_among : List Offence → Option Offence
first_among [] = None
first_among (o ∷ os) = Some (or_earlier o (first_among os))

abbrev pub first_offence : ProgramTree → Option Offence
first_offence program = first_among (offences_of program)
