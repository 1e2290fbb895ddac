use Rattle.std.proofs.Common.{◌≡◌, ap, ◌∙◌, subst, arith}
use Rattle.splittable.specs.Places.{item_count}
use Rattle.splittable.specs.Parts.{whole_of}
use Rattle.splittable.specs.Nodes.{IsNode, least_part_of}
use Rattle.piece_ledger.specs.Logs.{outcomes_of, IsWhole}
use Rattle.piece_ledger.specs.Folded.{HasLawfulTally}
use Rattle.fold_halves.proofs.Wholes.{all_logged}
use Rattle.fold_halves.proofs.folds.halves_logs.Goals as goal

pub begin_forked-requires-clause-part : goal.begin_forked-requires-clause-part
begin_forked-requires-clause-part g c κs within = subst (λ l. IsNode l c.least_part-least.result c.in-Some.whole) c.shape-shape.ensures (c.in-Some.ensures.node c.least_part-least.result)

pub returns-clause-whole : goal.returns-clause-whole
returns-clause-whole g c =
    let job = c.args.job.now in
    let lens = g.J.Job.lens job in
    let same = ap item_count c.shape-shape.ensures in
    let value = c.count.ensures.value in
    let most = c.count.ensures.few in
    let seats = c.in_ok-seat.ensures.few in
    let few = c.seats_for-seats.ensures.few in
    let least : c.least_part-least.result ≡ least_part_of c.args.base (item_count lens) = c.least_part-least.ensures.value ∙ ap (λ n. least_part_of c.args.base n) (value ∙ same) in
    let all = all_logged (g.J.Job.stands job) ((g.met.J.Job g.world.𝓛 g.world.𝓜 g.world.𝓡 ((λ s x. x), (λ x. x), (λ x. x), λ x. x)).stop_lies job) lens c.least_part-least.result c.args.workers c.in-Some.whole c.in_ok-seat.seat c.in_ok-seat.logs.items (omega (arith, same, value, most)) c.least_part-least.ensures.some
    (c.in-Some.ensures.whole ∙ ap whole_of c.shape-shape.ensures) c.close.ensures.known (λ one. omega (arith, one, seats, few)) c.in_ok-seat.ensures.logs in
    subst (λ n. IsWhole lens n (outcomes_of c.in_ok-seat.logs.items)) least all.whole

pub returns-clause-right : goal.returns-clause-right
returns-clause-right g c =
    let job = c.args.job.now in
    let lens = g.J.Job.lens job in
    let same = ap item_count c.shape-shape.ensures in
    let value = c.count.ensures.value in
    let most = c.count.ensures.few in
    let seats = c.in_ok-seat.ensures.few in
    let few = c.seats_for-seats.ensures.few in
    let least : c.least_part-least.result ≡ least_part_of c.args.base (item_count lens) = c.least_part-least.ensures.value ∙ ap (λ n. least_part_of c.args.base n) (value ∙ same) in
    let all = all_logged (g.J.Job.stands job) ((g.met.J.Job g.world.𝓛 g.world.𝓜 g.world.𝓡 ((λ s x. x), (λ x. x), (λ x. x), λ x. x)).stop_lies job) lens c.least_part-least.result c.args.workers c.in-Some.whole c.in_ok-seat.seat c.in_ok-seat.logs.items (omega (arith, same, value, most)) c.least_part-least.ensures.some
    (c.in-Some.ensures.whole ∙ ap whole_of c.shape-shape.ensures) c.close.ensures.known (λ one. omega (arith, one, seats, few)) c.in_ok-seat.ensures.logs in
    all.right

pub returns-clause-tally : goal.returns-clause-tally
returns-clause-tally g c =
    let job = c.args.job.now in
    let lens = g.J.Job.lens job in
    let same = ap item_count c.shape-shape.ensures in
    let value = c.count.ensures.value in
    let most = c.count.ensures.few in
    let seats = c.in_ok-seat.ensures.few in
    let few = c.seats_for-seats.ensures.few in
    let least : c.least_part-least.result ≡ least_part_of c.args.base (item_count lens) = c.least_part-least.ensures.value ∙ ap (λ n. least_part_of c.args.base n) (value ∙ same) in
    let all = all_logged (g.J.Job.stands job) ((g.met.J.Job g.world.𝓛 g.world.𝓜 g.world.𝓡 ((λ s x. x), (λ x. x), (λ x. x), λ x. x)).stop_lies job) lens c.least_part-least.result c.args.workers c.in-Some.whole c.in_ok-seat.seat c.in_ok-seat.logs.items (omega (arith, same, value, most)) c.least_part-least.ensures.some
    (c.in-Some.ensures.whole ∙ ap whole_of c.shape-shape.ensures) c.close.ensures.known (λ one. omega (arith, one, seats, few)) c.in_ok-seat.ensures.logs in
    subst (λ n. HasLawfulTally lens n c.args.workers (outcomes_of c.in_ok-seat.logs.items)) least all.tally
