use Rattle.std.proofs.Common.{◌≡◌, ◌%◌, ◌^◌, rules, arith, ap, sym}
use Rattle.std.proofs.lemmas.Int.{ints}
use Rattle.std.specs.Int.{int_wrap, w64, cast_signed}
use Rattle.std.specs.Prelude.{unsigned_abs}
use Rattle.loop_values.proofs.operations.absolute.Goals as goal

pub returns : goal.returns
unfolding int_wrap
returns c =
    let small : unsigned_abs c.args.n % 2 ^ 64 ≡ unsigned_abs c.args.n = omega (arith, ints) in
    let e = ap (cast_signed w64) (sym small) in
    search (rules, e)
