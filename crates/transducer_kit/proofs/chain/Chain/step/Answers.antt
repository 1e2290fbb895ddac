use Rattle.std.proofs.Common.{◌++◌, ap, subst, ◌∙◌}
use Rattle.program_rows.specs.Pairs.{TakeBehind, numbered}
use Rattle.transducer_kit.specs.Items.{item_pairs}
use Rattle.transducer_kit.proofs.chain.Chain.step.Goals as goal

-- the list, empty before, holds the item's pairs
pub returns-clause-states : goal.returns-clause-states
returns-clause-states c =
    let row = c.args.row.now.towers.items in
    let first = item_pairs c.args.self.now.stages c.args.env in
    let pairs = c.in_ok-end.ensures.pairs ∙ ap (λ before. before ++ first) c.new-pairs.ensures in
    subst (λ pairs. TakeBehind row c.args.state.now c.add_pairs.new.state (numbered row pairs)) pairs c.in_ok-add_pairs.ensures.states
