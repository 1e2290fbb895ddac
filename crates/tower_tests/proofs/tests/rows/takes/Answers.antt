use Rattle.std.proofs.Common.{◌≡◌, Some, refl, subst}
use Rattle.std.specs.Prelude.{slice_get}
use Rattle.std.proofs.lemmas.Option.{slice_get_read}
use Rattle.tower_tests.proofs.tests.rows.takes.Goals as goal

pub returns-in-Some : goal.returns-in-Some
returns-in-Some c = λ fit.
    let i = c.args.input.now.tower in
    let z = c.in-Some.ensures.lookup in
    let at = subst (λ l. slice_get l i ≡ Some c.in-Some.named.now) c.deref.ensures.value (slice_get_read c.deref.result.now _ i c.in-Some.named.now refl z.3.0 z.1) in
    (c.in-Some.named.now, at, c.fits.ensures fit)
