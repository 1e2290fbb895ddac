use Rattle.std.proofs.Common.{◌≡◌, true, rules}
use Rattle.std.specs.FinMap as map
use Rattle.loop_values.specs.Operations.{is_arithmetic}
use Rattle.loop_values.proofs.ScalarLemmas.{number_from-Two}
use Rattle.loop_values.proofs.values.is_number.Goals as goal

pub returns-in-Two : goal.returns-in-Two
returns-in-Two c is =
    let h : is_arithmetic c.in-Two.op ≡ true = search rules in
    number_from-Two (map.get c.args.env.now) _ _ _ _ c.in-Two.is h
