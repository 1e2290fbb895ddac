-- What a check of a program's lines one after another asks: the first offence at one entry, and of two stretches of entries.
-- Source: this project's language.
use Rattle.std.specs.Prelude.{◌≡◌, ℕ, List, [], ◌∷◌, ◌++◌, Option, Some, None, true, not}
use Rattle.std.specs.List.{list_all}
use Rattle.legality_rules.specs.Scopes.{Scope}
use Rattle.legality_rules.specs.Lines.{Entry, Listing, Listed, in_turn}
use Rattle.legality_rules.specs.Rules.{Outline, Spot, Rule, rules}
use Rattle.legality_rules.specs.declared.refusal.Offence.{Offence}
use Rattle.legality_rules.specs.Offences.{offence, precedes, or_earlier, first_among, offences_at, offences_after}

-- the first of two offences, on a tie the left one
abbrev pub earlier_of : Option Offence → Option Offence → Option Offence
earlier_of None p = p
earlier_of (Some o) p = Some (or_earlier o p)

-- an offence against the rule of this number at the leftmost of the names
abbrev pub first_named : ℕ → Spot → List (List ℕ) → Option Offence
first_named number spot [] = None
first_named number spot (n ∷ _) = Some (offence number spot n)

abbrev pub or_else : Option Offence → Option Offence → Option Offence
or_else None p = p
or_else (Some o) p = Some o

-- the first of these rules that the entry breaks, with the leftmost name
abbrev pub first_broken : Outline → Spot → List (ℕ × Rule) → Option Offence
first_broken outline spot [] = None
first_broken outline spot (rule ∷ more) = or_else (first_named rule.0 spot (rule.1 outline spot)) (first_broken outline spot more)

-- the names in scope after some parts of a program
abbrev pub scope_after : List Listing → Scope → Scope
scope_after [] scope = scope
scope_after (listing ∷ more) scope = let here : Listed = listing scope in scope_after more here.scope

-- the first offence at one entry is against the least rule that it breaks, at the leftmost name
abbrev pub FirstAtEntry : Type 0
FirstAtEntry = (outline : Outline) (spot : Spot) → first_among (offences_at outline spot) ≡ first_broken outline spot rules

-- of two stretches of entries the first offence is the first of both
abbrev pub FirstOfTwo : Type 0
FirstOfTwo = (outline : Outline) (before entries more : List Entry) →
    first_among (offences_after outline before (entries ++ more))
    ≡ earlier_of (first_among (offences_after outline before entries))
    (first_among (offences_after outline (before ++ entries) more))

-- an offence that no later one precedes is the first, whatever follows
abbrev pub FirstEndsCheck : Type 0
FirstEndsCheck = (o : Offence) (later : List Offence) → list_all (λ p. not (precedes p o)) later ≡ true →
    earlier_of (Some o) (first_among later) ≡ Some o

-- the entries of two stretches of a program
abbrev pub EntriesOfTwo : Type 0
EntriesOfTwo = (listings more : List Listing) (scope : Scope) →
    in_turn (listings ++ more) scope ≡ in_turn listings scope ++ in_turn more (scope_after listings scope)
