use Rattle.std.proofs.Common.{rules}
use Rattle.std.specs.Option.{option_copied}
use Rattle.legality_lines.proofs.HeadSteps.{known_is}
use Rattle.legality_lines.proofs.head.check_known_head.Goals as goal

pub returns : goal.returns
returns c = λ ne.
    known_is c.args.reducers.now c.args.head.now c.args.first.now c.args.state c.in_ok-state.state c.in_ok-kind.kind (option_copied c.repeated-twice.result) c.takes_items-fits.result
    c.are_splittable-splittable.result c.check_bound_head.result (search rules) (search rules) (search rules) (search rules) (c.in_ok-state.ensures (λ e. absurd (cc))) (c.check_bound_head.ensures ne)
