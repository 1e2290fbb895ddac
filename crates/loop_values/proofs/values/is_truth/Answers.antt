use Rattle.std.proofs.Common.{◌≡◌, true, rules}
use Rattle.loop_values.specs.Operations.{gives_truth}
use Rattle.loop_values.proofs.ScalarLemmas.{truth_from-Two}
use Rattle.loop_values.proofs.values.is_truth.Goals as goal

pub returns-in-Two : goal.returns-in-Two
returns-in-Two c is names =
    let h : gives_truth c.in-Two.op ≡ true = search rules in
    truth_from-Two names _ _ _ _ c.in-Two.is h
