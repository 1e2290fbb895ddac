use Rattle.fold_steal.specs.declared.seats.Held.{Held}
use Rattle.fold_steal.proofs.NewSteps.{new_is_held}
use Rattle.fold_steal.proofs.making.seat_one.Goals as goal

pub invariant_of-result : goal.invariant_of-result
invariant_of-result g c =
    let seat : Held g.row.S.Denot =
    record { number = c.args.number; dealt = c.args.dealt; stack = c.new.result; log = c.new-2.result; stop = c.args.stop; owner = c.args.owner; thieves = c.args.thieves } in
    new_is_held seat c.requires.large c.requires.started c.requires.ends c.requires.number c.requires.stop c.requires.alone c.new.ensures c.new-2.ensures
