use Rattle.std.proofs.Common.{◌≡◌, ◌+◌, ◌-◌, ◌*◌, drop, ◌<◌, ◌≤◌, sym, ap, ◌∙◌, arith, rules, to_z, of_z}
use Rattle.std.specs.Prelude.{FitsSigned}
use Rattle.std.specs.Int.{w64}
use Rattle.std.proofs.lemmas.Int.{to_z-of_z}
use Rattle.number_ranges.specs.Ranges.{range_item}
use Rattle.loop_values.specs.InnerItems.{items_of}
use Rattle.loop_meaning.specs.declared.steps.BodyRun.{BodyRun}
use Rattle.loop_meaning.specs.Steps.{for_each, for_item, inner_runs}
use Rattle.loop_meaning.proofs.HeadLemmas.{taken, passed, all_done, one_head, then_ok, items_told}
use Rattle.loop_meaning.proofs.heads.+heads.Goals as goal
use Rattle.loop_meaning.proofs.heads.+heads.Goals.{for_each-then-is_going+in_ok-for_item, for_each-else-is_going}

pub for_each-loop-before-preserved : goal.for_each-loop-before-preserved
for_each-loop-before-preserved t c =
    let program = c.args.program.now in
    let name = c.args.head.now.name in
    let range = c.args.range in
    let action = inner_runs program c.args.heads.now (c.args.width * range.count) in
    let k = c.loop-before.before in
    let within : k < range.count = omega arith in
    elim c.if-is_going.branch [
      | for_each-then-is_going+in_ok-for_item w ↦
          let item : FitsSigned w64 w.item-item.result = search rules in
          let same : k + 1 - 1 ≡ k = omega arith in
          let is : w.for_item.new.run ≡ for_item program name action (range_item range.first range.step k) c.loop-before.run =
          w.in_ok-for_item.ensures.run ∙ ap (λ n. for_item program name action n c.loop-before.run) (to_z-of_z w64 _ item ∙ w.item-item.ensures.value ∙ ap (range_item range.first range.step) same) in
          let next = taken program name action range k c.loop-before.run w.for_item.new.run within (sym c.is_going.ensures ∙ w.if-is_going.true) is in
          record {
            rest = ap (for_each program name (drop (k + 1) (items_of range)) action) w.run-is ∙ next ∙ c.loop-before.invariant.rest;
            outer = w.outer-is ∙ w.in_ok-for_item.ensures.outer ∙ sym (ap (λ (r : BodyRun). r.names) w.run-is);
          }
      | for_each-else-is_going w ↦
          let next = passed program name action range k c.loop-before.run within (sym c.is_going.ensures ∙ w.if-is_going.false) in
          record {
            rest = ap (for_each program name (drop (k + 1) (items_of range)) action) w.run-is ∙ next ∙ c.loop-before.invariant.rest;
            outer = w.outer-is ∙ c.loop-before.invariant.outer ∙ sym (ap (λ (r : BodyRun). r.names) w.run-is);
          }
    ]

pub for_each-returns : goal.for_each-returns
for_each-returns t c =
    let action = inner_runs c.args.program.now c.args.heads.now (c.args.width * c.args.range.count) in
    let ended : c.args.range.count ≤ c.loop-before.before = omega arith in
    sym (all_done c.args.program.now c.args.head.now.name action c.args.range c.loop-before.before c.loop-before.run ended) ∙ c.loop-before.invariant.rest

pub inner_runs-returns-in-Ok : goal.inner_runs-returns-in-Ok
inner_runs-returns-in-Ok t c =
    let run = c.args.run.now in
    let items = items_told c.eval_range.result c.in-Ok.range _ c.in-Ok.is c.eval_range.ensures.items in
    let one = one_head c.args.program.now c.in-Some.head.now c.in-Some.heads.now c.args.width run c.in-Ok.range items in
    then_ok c.for_each.result (λ e. e ∙ one ∙ ap (λ hs. inner_runs c.args.program.now hs c.args.width run) (sym c.in-Some.ensures.cases.0)) c.for_each.ensures
