-- What the check of a program answers. Internal: the first offence is defined in the crate legality_rules.
-- Source: this project's language.
use Rattle.std.specs.Prelude.{if◌then◌else◌, Result, Ok, Err}
use Rattle.loop_grammar.specs.declared.tree.ProgramTree.{ProgramTree}
use Rattle.legality_rules.specs.declared.refusal.Offence.{Offence}
use Rattle.legality_rules.specs.declared.refusal.LegalRefusal.{LegalRefusal}
use Rattle.legality_rules.specs.declared.refusal.LegalRefusal.TheVariants.{Illegal, NoMemory}
use Rattle.legality_rules.specs.Offences.{precedes}
use Rattle.legality_names.specs.declared.deeds.Deed.TheVariants.{Reduces}
use Rattle.legality_names.specs.Deeds.{done_in}
use Rattle.legality_lines.specs.Walks.{program_checked}
use Rattle.legality_scratches.specs.Scans.{program_scanned}

abbrev pub Tried : Type 0
Tried = Result (Unit {0}) LegalRefusal

abbrev pub earlier_offence : Offence → Tried → Tried
earlier_offence o (Ok _) = Err (Illegal o)
earlier_offence o (Err NoMemory) = Err NoMemory
earlier_offence o (Err (Illegal p)) = if precedes p o then Err (Illegal p) else Err (Illegal o)

-- the earlier of two refusals; want of memory comes before all
abbrev pub earlier : Tried → Tried → Tried
earlier (Ok _) right = right
earlier (Err NoMemory) right = Err NoMemory
earlier (Err (Illegal o)) right = earlier_offence o right

abbrev pub tried : ProgramTree → Tried
tried p = earlier (program_checked (done_in Reduces p.body) p) (program_scanned p)
