use Rattle.loop_results.proofs.ExtremeLemmas.{first_is_best, unbeaten}
use Rattle.reducer_laws.proofs.laws.the_best_is_an_unbeaten_input.Goals as goal

pub returns : goal.returns
returns g c =
    let order = g.met.P.Preference.is_order in
    record { best = first_is_best order; unbeaten = unbeaten order }
