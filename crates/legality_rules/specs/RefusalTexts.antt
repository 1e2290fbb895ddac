-- The text of a program's first offence.
-- Source: this project's language.
use Rattle.std.specs.Prelude.{ℕ, ◌==◌, nat_lt, List, [], ◌++◌, if◌then◌else◌, codes}
use Rattle.std.specs.Fmt.{decimal}
use Rattle.tower_inputs.specs.Inputs.{most_sites}
use Rattle.legality_rules.specs.declared.refusal.Offence.{Offence}
use Rattle.legality_rules.specs.declared.refusal.LegalRefusal.{LegalRefusal}
use Rattle.legality_rules.specs.declared.refusal.LegalRefusal.TheVariants as refusal

-- what an offence against the rule of this number is called, up to its name; there is no rule past the tenth
abbrev pub words_before : ℕ → List ℕ
words_before number =
    if number == 1 then codes "unknown name "
    else if number == 2 then codes "name "
    else if number == 3 then codes "carried variable "
    else if number == 4 then codes "carried scratch "
    else if number == 5 then codes "reducer "
    else if number == 6 then codes "reducer "
    else if number == 7 then codes "type differs at "
    else if number == 8 then codes "start not allowed for "
    else if number == 9 then codes "head not splittable"
    else codes "over " ++ decimal most_sites ++ codes " reduce lines"

-- the rules 9 and 10 leave the name out
abbrev pub name_told : ℕ → List ℕ → List ℕ
name_told number name = if nat_lt number 9 then name else []

-- what follows the name
abbrev pub words_after : ℕ → List ℕ
words_after number =
    if number == 2 then codes " bound twice"
    else if number == 5 then codes " used in the loop"
    else if number == 6 then codes " has another tower"
    else []

-- an offence with its line
abbrev pub offence_text : Offence → List ℕ
offence_text o =
    codes "line " ++ decimal o.line ++ codes ": " ++ words_before o.number ++ name_told o.number o.name ++ words_after o.number

-- what a refusal is called
abbrev pub legal_text : LegalRefusal → List ℕ
legal_text (refusal.Illegal o) = offence_text o
legal_text refusal.NoMemory = codes "out of memory"
