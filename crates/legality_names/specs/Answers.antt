-- What the checks of a program's parts answer. Internal: the rules are defined in the crate legality_rules.
-- Source: this project's language.
use Rattle.std.specs.Prelude.{ℕ, List, [], ◌∷◌, Option, Some, None, Result, Ok, Err}
use Rattle.legality_rules.specs.declared.refusal.Offence.{Offence}
use Rattle.legality_rules.specs.declared.refusal.LegalRefusal.{LegalRefusal}
use Rattle.legality_rules.specs.declared.refusal.LegalRefusal.TheVariants.{Illegal}

-- the leftmost of the names
abbrev pub leftmost : List (List ℕ) → Option (List ℕ)
leftmost [] = None
leftmost (n ∷ _) = Some n

-- an offence at the name, where there is one
abbrev pub named : ℕ → ℕ → Option (List ℕ) → Option Offence
named number line None = None
named number line (Some n) = Some (record { number = number; line = line; name = n })

-- what a check answers: nothing, or the refusal for an offence
abbrev pub answer : Option Offence → Result (Unit {0}) LegalRefusal
answer None = Ok tt
answer (Some o) = Err (Illegal o)

-- the refusal of a line at a name
abbrev pub illegal : ℕ → ℕ → List ℕ → LegalRefusal
illegal number line n = Illegal (record { number = number; line = line; name = n })

-- one check after another: the first refusal is the answer
abbrev pub and_then : {X Y : Type 0} → Result X LegalRefusal → (X → Result Y LegalRefusal) → Result Y LegalRefusal
and_then (Ok x) f = f x
and_then (Err e) f = Err e
