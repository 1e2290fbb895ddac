use Rattle.std.proofs.Common.{◌+◌, ◌*◌, ◌-◌, get_or, refl, arith}
use Rattle.loop_tokens.proofs.LimitLemmas.{too_wide}
use Rattle.loop_tokens.proofs.literal.number_of.Goals as goal

pub returns-then-next : goal.returns-then-next
returns-then-next c = λ le.
    let n = c.loop-b.value in
    let d = get_or c.as_bytes-b-items.result.now c.loop-b.b-index 0 - 48 in
    let above = too_wide c.args.digits.now c.as_bytes-b-items.result.now c.loop-b.b-index n (10 * n + d) c.loop-b.invariant.ahead c.loop-b-test.true refl in
    absurd (omega arith)
