-- What lowering needs of a program holds of each legal one that a text spells.
use Rattle.std.proofs.Common.{◌≡◌, true, refl}
use Rattle.loop_grammar.specs.WellFormed.{is_well_formed}
use Rattle.loop_grammar.specs.declared.tree.ProgramTree.{ProgramTree}
use Rattle.legality_rules.specs.Offences.{IsLegal}
use Rattle.carries_nothing.proofs.KeptNames.{inner_items_keep}
use Rattle.carries_nothing.proofs.SameSteps.{bodies_are_same, ranges_are_same}
use Rattle.carries_nothing.proofs.SpelledNames.{others_are_unseen}
use Rattle.chain_stages.specs.Elements.{item_name}
use Rattle.loop_stages.proofs.HeadLemmas.{IsApart}
use Rattle.loop_stages.proofs.LineLemmas.{breaks_apart}

pub legal_is_apart : (program : ProgramTree) → IsLegal program → is_well_formed program ≡ true → IsApart program
legal_is_apart program legal formed = record {
  bodies = bodies_are_same program legal;
  ranges = ranges_are_same program legal;
  kept = inner_items_keep program legal formed;
  unnamed = others_are_unseen program formed item_name refl refl;
  breaks = breaks_apart program formed;
}
