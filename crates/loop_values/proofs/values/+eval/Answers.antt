use Rattle.std.proofs.Common.{◌≡◌, true, rules}
use Rattle.std.specs.FinMap as map
use Rattle.loop_values.specs.Operations.{is_arithmetic}
use Rattle.loop_values.proofs.ScalarLemmas.{int-Two, number-Two}
use Rattle.loop_values.proofs.values.+eval.Goals as goal

pub int_of_two-returns-in_err-b-in-Two : goal.int_of_two-returns-in_err-b-in-Two
int_of_two-returns-in_err-b-in-Two t c =
    let h : is_arithmetic c.in-Two.op ≡ true = search rules in
    let e = int-Two (map.get c.args.env.now) c.in-Two.op c.in-Two.left c.in-Two.right h in
    search (rules, e)

pub int_of_two-returns-in_ok-b-in-Two : goal.int_of_two-returns-in_ok-b-in-Two
int_of_two-returns-in_ok-b-in-Two t c =
    let h : is_arithmetic c.in-Two.op ≡ true = search rules in
    let e = int-Two (map.get c.args.env.now) c.in-Two.op c.in-Two.left c.in-Two.right h in
    search (rules, e)

pub look-returns-in_err-b-in-Two : goal.look-returns-in_err-b-in-Two
look-returns-in_err-b-in-Two t c =
    let h : is_arithmetic c.in-Two.op ≡ true = search rules in
    let e = number-Two (map.get c.args.env.now) c.in-Two.op c.in-Two.left c.in-Two.right h in
    search (rules, e)

pub look-returns-in_err-arithmetic-in-Two : goal.look-returns-in_err-arithmetic-in-Two
look-returns-in_err-arithmetic-in-Two t c =
    let h : is_arithmetic c.in-Two.op ≡ true = search rules in
    let e = number-Two (map.get c.args.env.now) c.in-Two.op c.in-Two.left c.in-Two.right h in
    search (rules, e)

pub look-returns-in_ok-arithmetic-in-Two : goal.look-returns-in_ok-arithmetic-in-Two
look-returns-in_ok-arithmetic-in-Two t c =
    let h : is_arithmetic c.in-Two.op ≡ true = search rules in
    let e = number-Two (map.get c.args.env.now) c.in-Two.op c.in-Two.left c.in-Two.right h in
    search (rules, e)
