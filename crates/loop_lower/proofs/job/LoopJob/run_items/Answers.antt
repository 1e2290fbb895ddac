use Rattle.std.proofs.Common.{◌≤◌, ◌+◌, ◌-◌, drop, length, sym, ap, ◌∙◌, subst, length-take, length-drop, arith}
use Rattle.number_ranges.specs.Ranges.{most_items}
use Rattle.loop_items.specs.Walks.{IsTaken}
use Rattle.loop_lower.specs.Walked.{IsItemTaken, item_run}
use Rattle.loop_lower.proofs.FitLemmas.{item_pairs_fit}
use Rattle.loop_lower.proofs.PartLemmas.{break_ends, dropped, fault_ends, next_has_room, none_left, ran_out, skipped_few, walk_goes_on}
use Rattle.loop_lower.proofs.job.LoopJob.run_items.Goals as goal

pub returns-in_default : goal.returns-in_default
returns-in_default c =
    let job = c.args.self.now in
    let none = subst (λ taken. IsTaken taken c.loop-before.walk c.next.new.self) c.in_default.is c.in_ok-item.ensures.taken in
    ran_out job.program.now job.known.legal job.row.towers.items c.args.walk.now c.args.first c.loop-before.before c.loop-before.walk c.loop-before.walked c.loop-before.invariant
    (none_left job.program.now job.known.legal job.row.towers.items c.args.walk.now c.args.first c.loop-before.before c.loop-before.walk c.loop-before.walked c.loop-before.invariant none.0)

-- ---- one item more

pub take_item-requires : goal.take_item-requires
take_item-requires c =
    let job = c.args.self.now in
    let P = job.program.now in
    let row = job.row.towers.items in
    let item = subst (λ taken. IsTaken taken c.loop-before.walk c.next.new.self) c.in-Some.is c.in_ok-item.ensures.taken in
    let few = skipped_few P job.known.legal row c.args.walk.now c.args.first c.loop-before.before c.loop-before.walk c.loop-before.walked c.loop-before.invariant in
    let there = ap (drop c.loop-before.before) (sym c.requires.items)
    ∙ dropped P job.known.legal row c.args.walk.now c.args.first c.loop-before.before c.loop-before.walk c.next.new.self c.in-Some.item c.loop-before.walked c.loop-before.invariant item in
    let all : length c.args.walk.now ≤ most_items = subst (λ xs. length xs ≤ most_items) (sym c.requires.items)
    (omega (arith, length-take c.args.count (drop (c.args.first - 1) job.head.items), length-drop (c.args.first - 1) job.head.items, job.known.few_items)) in
    record {
      low = omega (arith, c.loop-before-test.true, c.requires.within, job.known.few_items);
      few = omega (arith, few, c.loop-before-test.true, c.requires.within, c.requires.low, job.known.few_items);
      emptied = c.loop-before.invariant.emptied;
      fit = item_pairs_fit P job.head.items row job.known job.of_head job.row_is c.args.first c.args.count c.loop-before.before c.in-Some.item c.next.new.self there
          (c.args.first + c.loop-before.before) (omega (arith, c.requires.low)) (omega (arith, c.loop-before-test.true, c.requires.within, job.known.few_items));
      room = next_has_room P job.known.legal row c.args.walk.now c.args.first c.loop-before.before c.loop-before.walk c.next.new.self c.in-Some.item c.loop-before.walked c.loop-before.invariant item all;
    }

pub loop-before-preserved : goal.loop-before-preserved
loop-before-preserved c =
    let job = c.args.self.now in
    let place = c.args.first + c.loop-before.before in
    let item = subst (λ taken. IsTaken taken c.loop-before.walk c.next.new.self) c.in-Some.is c.in_ok-item.ensures.taken in
    let done = subst (IsItemTaken job.program.now job.row.towers.items (item_run job.program.now c.in-Some.item place) place c.loop-before.walked c.take_item.new.walked) c.in-Going.is c.in_ok-take_item.ensures in
    walk_goes_on job.program.now job.known.legal job.row.towers.items c.args.walk.now c.args.first c.loop-before.before c.loop-before.walk c.next.new.self c.in-Some.item c.loop-before.walked c.loop-before.invariant item
    c.take_item.new.walked done.0 done.1

-- ---- an item that ends the part

pub returns-in-Ended : goal.returns-in-Ended
returns-in-Ended c =
    let job = c.args.self.now in
    let place = c.args.first + c.loop-before.before in
    let item = subst (λ taken. IsTaken taken c.loop-before.walk c.next.new.self) c.in-Some.is c.in_ok-item.ensures.taken in
    let done = subst (IsItemTaken job.program.now job.row.towers.items (item_run job.program.now c.in-Some.item place) place c.loop-before.walked c.take_item.new.walked) c.in-Ended.is c.in_ok-take_item.ensures in
    break_ends job.program.now job.known.legal job.row.towers.items c.args.walk.now c.args.first c.loop-before.before c.loop-before.walk c.next.new.self c.in-Some.item c.loop-before.walked c.loop-before.invariant item
    c.take_item.new.walked done.0 c.in-Ended.line done.1 done.2 done.3

pub returns-in-Fault : goal.returns-in-Fault
returns-in-Fault c =
    let job = c.args.self.now in
    let place = c.args.first + c.loop-before.before in
    let item = subst (λ taken. IsTaken taken c.loop-before.walk c.next.new.self) c.in-Some.is c.in_ok-item.ensures.taken in
    let done = subst (IsItemTaken job.program.now job.row.towers.items (item_run job.program.now c.in-Some.item place) place c.loop-before.walked c.take_item.new.walked) c.in-Fault.is c.in_ok-take_item.ensures in
    fault_ends job.program.now job.known.legal job.row.towers.items c.args.walk.now c.args.first c.loop-before.before c.loop-before.walk c.next.new.self c.in-Some.item c.loop-before.walked c.loop-before.invariant item
    c.in-Fault.line c.in-Fault.kind done
