use Rattle.std.proofs.Common.{◌≡◌, ◌≢◌, true, false, rules}
use Rattle.loop_data.specs.declared.expr.Op.TheVariants as op
use Rattle.loop_values.specs.Operations.{is_arithmetic, is_comparison}
use Rattle.loop_values.proofs.ScalarLemmas.{two_of-arithmetic, two_of-comparison, two_of-truth}
use Rattle.loop_values.proofs.operations.two.Goals as goal

pub returns-then-is_arithmetic : goal.returns-then-is_arithmetic
returns-then-is_arithmetic c =
    let h : is_arithmetic c.args.op ≡ true = search rules in
    let e = two_of-arithmetic c.args.op c.args.x.now c.args.y.now h in
    search (rules, e)

pub returns-in_err-arithmetic : goal.returns-in_err-arithmetic
returns-in_err-arithmetic c =
    let h : is_arithmetic c.args.op ≡ true = search rules in
    let e = two_of-arithmetic c.args.op c.args.x.now c.args.y.now h in
    search (rules, e)

pub returns-then-is_comparison : goal.returns-then-is_comparison
returns-then-is_comparison c =
    let h : is_comparison c.args.op ≡ true = search rules in
    let e = two_of-comparison c.args.op c.args.x.now c.args.y.now h in
    search (rules, e)

pub returns-in_default : goal.returns-in_default
returns-in_default c =
    let h : is_arithmetic c.args.op ≡ false = search rules in
    let k : is_comparison c.args.op ≡ false = search rules in
    let ne : c.args.op ≢ op.Join = search rules in
    let e = two_of-truth c.args.op c.args.x.now c.args.y.now h k ne in
    search (rules, e)
