use Rattle.std.proofs.Common.{arith}
use Rattle.loop_items.proofs.Steps.{all_begin_again, last_goes_on}
use Rattle.loop_items.proofs.walk.next_places.Goals as goal

pub returns-then-d-lens : goal.returns-then-d-lens
returns-then-d-lens c =
    last_goes_on c.args.lens.now c.args.places.now c.told-lens c.told-places (omega arith) (omega arith) (omega arith) (omega arith)

pub returns-else-d-lens : goal.returns-else-d-lens
returns-else-d-lens c =
    all_begin_again c.args.lens.now c.args.places.now c.told-lens c.told-places (omega arith) (omega arith) (omega arith) (omega arith)
