use Rattle.std.proofs.Common.{◌≡◌, ◌≤◌, true, length, sym, ap, ◌∙◌, arith}
use Rattle.number_ranges.specs.Ranges.{most_items}
use Rattle.loop_grammar.specs.WellFormed.{is_well_formed}
use Rattle.loop_grammar.specs.declared.tree.ProgramTree.{ProgramTree}
use Rattle.loop_meaning.specs.Stores.{start_store}
use Rattle.loop_items.specs.Heads.{opened}
use Rattle.loop_stages.specs.Lowering.{lowered}
use Rattle.loop_lower.proofs.LowerLemmas.{of_head}
use Rattle.loop_lower.proofs.lowering.lower.Goals as goal

-- what each call says is known of the job
pub invariant_of-result : goal.invariant_of-result
invariant_of-result c =
    let P = c.args.program.now in
    let formed : is_well_formed P ≡ true = sym (ap is_well_formed c.program-2.ensures.same) ∙ c.tree.ensures.well_formed in
    let few : length c.in_ok-head.head.items ≤ most_items = omega (arith, c.count.ensures.items, c.count.ensures.few) in
    let opening = c.in_ok-head.ensures (λ h. absurd (cc (h))) ∙ ap (λ (p : ProgramTree). opened p c.args.table.now) c.program.ensures.same in
    record {
      known = record { legal = c.program.ensures.legal; formed = formed; few_items = few };
      of_head = of_head P c.args.table.now c.in_ok-head.head opening;
      counted = sym c.count.ensures.axes ∙ c.count.ensures.items;
      row_is = c.in_ok-row.ensures;
      stages_are = c.in_ok-chain.ensures ∙ ap lowered (c.tree.ensures.parts ∙ c.program-2.ensures.same);
      start_is = c.in_ok-start.ensures ∙ ap start_store c.program-3.ensures.same;
    }
