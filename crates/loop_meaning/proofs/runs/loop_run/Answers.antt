use Rattle.std.proofs.Common.{◌≡◌, ◌≢◌, ◌+◌, ◌<◌, ◌∷◌, [], length, ap, sym, ◌∙◌, arith, rules}
use Rattle.loop_meaning.specs.declared.runs.PlainStop.TheVariants.{Ran}
use Rattle.loop_meaning.specs.Runs.{followed_by, loop_run}
use Rattle.loop_meaning.proofs.RunLemmas.{one_more, stopped_run}
use Rattle.loop_meaning.proofs.runs.loop_run.Goals as goal

-- the run stopped at this item
pub returns-then-has_stopped : goal.returns-then-has_stopped
returns-then-has_stopped c =
    let program = c.args.program.now in
    let i = c.loop-i.i in
    let item = c.index-items-i.result in
    let within : i < length c.args.items.now = omega arith in
    let stopped : c.in_ok-run.run'.stop ≢ Ran = search rules in
    stopped_run program c.args.store c.args.items.now (i + 1) c.in_ok-run.run'
    (c.in_ok-run.ensures.run
    ∙ ap (λ r. followed_by r (loop_run program r.store (item ∷ []) (i + 1))) c.loop-i.invariant.is
    ∙ sym (one_more program c.args.store c.args.items.now i item within (sym c.index-items-i.is)))
    stopped

-- one more item ran
pub loop-i-preserved : goal.loop-i-preserved
loop-i-preserved c =
    let program = c.args.program.now in
    let i = c.loop-i.i in
    let item = c.index-items-i.result in
    let within : i < length c.args.items.now = omega arith in
    record {
      is = c.in_ok-run.ensures.run
          ∙ ap (λ r. followed_by r (loop_run program r.store (item ∷ []) (i + 1))) c.loop-i.invariant.is
          ∙ sym (one_more program c.args.store c.args.items.now i item within (sym c.index-items-i.is));
      ran = search rules;
      few = omega (arith, c.in_ok-run.ensures.skipped, c.loop-i.invariant.few);
    }
