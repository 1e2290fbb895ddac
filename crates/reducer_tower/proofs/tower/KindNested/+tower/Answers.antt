use mathlib.Core.Path.{subst, sym}
use Rattle.std.specs.Prelude.{[], IfOk, OnOk}
use Rattle.reducer_laws.specs.Standing.{MayTake, MayMerge, TakesNext, TakesTogether}
use Rattle.reducer_tower.proofs.KindLemmas.{of_sum, of_prod, of_count, of_least, of_greatest, of_least_at, of_greatest_at, of_first, of_last, of_any, of_all, of_listed, of_grouped, of_both, grouped_fits, both_fit}
use Rattle.reducer_tower.proofs.tower.KindNested.+tower.Goals as goal

pub merge-sum_merge-requires : goal.merge-sum_merge-requires
merge-sum_merge-requires t c = subst (λ S. MayMerge S c.args.left c.args.right) (of_sum c.args.self.now c.in-Sum.is) c.requires

pub merge-prod_merge-requires : goal.merge-prod_merge-requires
merge-prod_merge-requires t c = subst (λ S. MayMerge S c.args.left c.args.right) (of_prod c.args.self.now c.in-Prod.is) c.requires

pub merge-count_merge-requires : goal.merge-count_merge-requires
merge-count_merge-requires t c = subst (λ S. MayMerge S c.args.left c.args.right) (of_count c.args.self.now c.in-Count.is) c.requires

pub merge-found_merge-requires : goal.merge-found_merge-requires
merge-found_merge-requires t c = subst (λ S. MayMerge S c.args.left c.args.right) (of_least c.args.self.now c.in-Least.is) c.requires

pub merge-found_merge-requires-in-Greatest : goal.merge-found_merge-requires-in-Greatest
merge-found_merge-requires-in-Greatest t c = subst (λ S. MayMerge S c.args.left c.args.right) (of_greatest c.args.self.now c.in-Greatest.is) c.requires

pub merge-placed_merge-requires : goal.merge-placed_merge-requires
merge-placed_merge-requires t c = subst (λ S. MayMerge S c.args.left c.args.right) (of_least_at c.args.self.now c.in-LeastAt.is) c.requires

pub merge-placed_merge-requires-in-GreatestAt : goal.merge-placed_merge-requires-in-GreatestAt
merge-placed_merge-requires-in-GreatestAt t c = subst (λ S. MayMerge S c.args.left c.args.right) (of_greatest_at c.args.self.now c.in-GreatestAt.is) c.requires

pub merge-found_merge-requires-in-First : goal.merge-found_merge-requires-in-First
merge-found_merge-requires-in-First t c = subst (λ S. MayMerge S c.args.left c.args.right) (of_first c.args.self.now c.in-First.is) c.requires

pub merge-found_merge-requires-in-Last : goal.merge-found_merge-requires-in-Last
merge-found_merge-requires-in-Last t c = subst (λ S. MayMerge S c.args.left c.args.right) (of_last c.args.self.now c.in-Last.is) c.requires

pub merge-truth_merge-requires : goal.merge-truth_merge-requires
merge-truth_merge-requires t c = subst (λ S. MayMerge S c.args.left c.args.right) (of_any c.args.self.now c.in-Any.is) c.requires

pub merge-truth_merge-requires-in-All : goal.merge-truth_merge-requires-in-All
merge-truth_merge-requires-in-All t c = subst (λ S. MayMerge S c.args.left c.args.right) (of_all c.args.self.now c.in-All.is) c.requires

pub merge-list_merge-requires : goal.merge-list_merge-requires
merge-list_merge-requires t c = subst (λ S. MayMerge S c.args.left c.args.right) (of_listed c.args.self.now c.in-Listed.is) c.requires

pub merge-grouped_merge-requires : goal.merge-grouped_merge-requires
merge-grouped_merge-requires t c = subst (λ S. MayMerge S c.args.left c.args.right) (of_grouped c.args.self.now c.in-Grouped.inner c.get.result.now c.in-Grouped.is c.get.ensures) c.requires

pub merge-both_merge-requires : goal.merge-both_merge-requires
merge-both_merge-requires t c =
    subst (λ S. MayMerge S c.args.left c.args.right)
    (of_both c.args.self.now c.in-Both.one c.in-Both.other c.get-in-Both.result.now c.get-in-Both-2.result.now c.in-Both.is c.get-in-Both.ensures c.get-in-Both-2.ensures)
    c.requires

pub merge-returns-in-Sum : goal.merge-returns-in-Sum
merge-returns-in-Sum t c = subst (λ S. IfOk c.sum_merge.result (TakesTogether S c.args.left c.args.right)) (sym (of_sum c.args.self.now c.in-Sum.is)) c.sum_merge.ensures

pub merge-returns-in-Prod : goal.merge-returns-in-Prod
merge-returns-in-Prod t c = subst (λ S. IfOk c.prod_merge.result (TakesTogether S c.args.left c.args.right)) (sym (of_prod c.args.self.now c.in-Prod.is)) c.prod_merge.ensures

pub merge-returns-in-Count : goal.merge-returns-in-Count
merge-returns-in-Count t c = subst (λ S. IfOk c.count_merge.result (TakesTogether S c.args.left c.args.right)) (sym (of_count c.args.self.now c.in-Count.is)) c.count_merge.ensures

pub merge-returns-in-Least : goal.merge-returns-in-Least
merge-returns-in-Least t c = subst (λ S. IfOk c.found_merge.result (TakesTogether S c.args.left c.args.right)) (sym (of_least c.args.self.now c.in-Least.is)) c.found_merge.ensures

pub merge-returns-in-Greatest : goal.merge-returns-in-Greatest
merge-returns-in-Greatest t c = subst (λ S. IfOk c.found_merge-in-Greatest.result (TakesTogether S c.args.left c.args.right)) (sym (of_greatest c.args.self.now c.in-Greatest.is)) c.found_merge-in-Greatest.ensures

pub merge-returns-in-LeastAt : goal.merge-returns-in-LeastAt
merge-returns-in-LeastAt t c = subst (λ S. IfOk c.placed_merge.result (TakesTogether S c.args.left c.args.right)) (sym (of_least_at c.args.self.now c.in-LeastAt.is)) c.placed_merge.ensures

pub merge-returns-in-GreatestAt : goal.merge-returns-in-GreatestAt
merge-returns-in-GreatestAt t c = subst (λ S. IfOk c.placed_merge-in-GreatestAt.result (TakesTogether S c.args.left c.args.right)) (sym (of_greatest_at c.args.self.now c.in-GreatestAt.is)) c.placed_merge-in-GreatestAt.ensures

pub merge-returns-in-First : goal.merge-returns-in-First
merge-returns-in-First t c = subst (λ S. IfOk c.found_merge-in-First.result (TakesTogether S c.args.left c.args.right)) (sym (of_first c.args.self.now c.in-First.is)) c.found_merge-in-First.ensures

pub merge-returns-in-Last : goal.merge-returns-in-Last
merge-returns-in-Last t c = subst (λ S. IfOk c.found_merge-in-Last.result (TakesTogether S c.args.left c.args.right)) (sym (of_last c.args.self.now c.in-Last.is)) c.found_merge-in-Last.ensures

pub merge-returns-in-Any : goal.merge-returns-in-Any
merge-returns-in-Any t c = subst (λ S. IfOk c.truth_merge.result (TakesTogether S c.args.left c.args.right)) (sym (of_any c.args.self.now c.in-Any.is)) c.truth_merge.ensures

pub merge-returns-in-All : goal.merge-returns-in-All
merge-returns-in-All t c = subst (λ S. IfOk c.truth_merge-in-All.result (TakesTogether S c.args.left c.args.right)) (sym (of_all c.args.self.now c.in-All.is)) c.truth_merge-in-All.ensures

pub merge-returns-in-Listed : goal.merge-returns-in-Listed
merge-returns-in-Listed t c = subst (λ S. IfOk c.list_merge.result (TakesTogether S c.args.left c.args.right)) (sym (of_listed c.args.self.now c.in-Listed.is)) c.list_merge.ensures

pub merge-returns-in-Grouped : goal.merge-returns-in-Grouped
merge-returns-in-Grouped t c =
    subst (λ S. IfOk c.grouped_merge.result (TakesTogether S c.args.left c.args.right))
    (sym (of_grouped c.args.self.now c.in-Grouped.inner c.get.result.now c.in-Grouped.is c.get.ensures))
    c.grouped_merge.ensures

pub merge-returns-in-Both : goal.merge-returns-in-Both
merge-returns-in-Both t c =
    subst (λ S. IfOk c.both_merge.result (TakesTogether S c.args.left c.args.right))
    (sym (of_both c.args.self.now c.in-Both.one c.in-Both.other c.get-in-Both.result.now c.get-in-Both-2.result.now c.in-Both.is c.get-in-Both.ensures c.get-in-Both-2.ensures))
    c.both_merge.ensures

pub next-sum_next-requires : goal.next-sum_next-requires
next-sum_next-requires t c = subst (λ S. MayTake S c.args.state.now) (of_sum c.args.self.now c.in-Sum.is) c.requires.room

pub next-prod_next-requires : goal.next-prod_next-requires
next-prod_next-requires t c = subst (λ S. MayTake S c.args.state.now) (of_prod c.args.self.now c.in-Prod.is) c.requires.room

pub next-count_next-requires : goal.next-count_next-requires
next-count_next-requires t c = subst (λ S. MayTake S c.args.state.now) (of_count c.args.self.now c.in-Count.is) c.requires.room

pub next-found_next-requires-clause-room : goal.next-found_next-requires-clause-room
next-found_next-requires-clause-room t c = subst (λ S. MayTake S c.args.state.now) (of_least c.args.self.now c.in-Least.is) c.requires.room

pub next-found_next-requires-in-Greatest-clause-room : goal.next-found_next-requires-in-Greatest-clause-room
next-found_next-requires-in-Greatest-clause-room t c = subst (λ S. MayTake S c.args.state.now) (of_greatest c.args.self.now c.in-Greatest.is) c.requires.room

pub next-placed_next-requires-clause-room : goal.next-placed_next-requires-clause-room
next-placed_next-requires-clause-room t c = subst (λ S. MayTake S c.args.state.now) (of_least_at c.args.self.now c.in-LeastAt.is) c.requires.room

pub next-placed_next-requires-in-GreatestAt-clause-room : goal.next-placed_next-requires-in-GreatestAt-clause-room
next-placed_next-requires-in-GreatestAt-clause-room t c = subst (λ S. MayTake S c.args.state.now) (of_greatest_at c.args.self.now c.in-GreatestAt.is) c.requires.room

pub next-found_next-requires-in-First-clause-room : goal.next-found_next-requires-in-First-clause-room
next-found_next-requires-in-First-clause-room t c = subst (λ S. MayTake S c.args.state.now) (of_first c.args.self.now c.in-First.is) c.requires.room

pub next-found_next-requires-in-Last-clause-room : goal.next-found_next-requires-in-Last-clause-room
next-found_next-requires-in-Last-clause-room t c = subst (λ S. MayTake S c.args.state.now) (of_last c.args.self.now c.in-Last.is) c.requires.room

pub next-truth_next-requires-clause-room : goal.next-truth_next-requires-clause-room
next-truth_next-requires-clause-room t c = subst (λ S. MayTake S c.args.state.now) (of_any c.args.self.now c.in-Any.is) c.requires.room

pub next-truth_next-requires-in-All-clause-room : goal.next-truth_next-requires-in-All-clause-room
next-truth_next-requires-in-All-clause-room t c = subst (λ S. MayTake S c.args.state.now) (of_all c.args.self.now c.in-All.is) c.requires.room

pub next-list_next-requires : goal.next-list_next-requires
next-list_next-requires t c = subst (λ S. MayTake S c.args.state.now) (of_listed c.args.self.now c.in-Listed.is) c.requires.room

pub next-grouped_next-requires : goal.next-grouped_next-requires
next-grouped_next-requires t c = (
  subst (λ S. MayTake S c.args.state.now) (of_grouped c.args.self.now c.in-Grouped.inner c.get.result.now c.in-Grouped.is c.get.ensures) c.requires.room,
  grouped_fits c.args.self.now c.in-Grouped.inner c.get.result.now c.args.input c.in-Grouped.is c.get.ensures c.requires.accepts,
)

pub next-both_next-requires : goal.next-both_next-requires
next-both_next-requires t c = (
  subst (λ S. MayTake S c.args.state.now)
      (of_both c.args.self.now c.in-Both.left c.in-Both.right c.get-in-Both.result.now c.get-in-Both-2.result.now c.in-Both.is c.get-in-Both.ensures c.get-in-Both-2.ensures)
      c.requires.room,
  both_fit c.args.self.now c.in-Both.left c.in-Both.right c.get-in-Both.result.now c.get-in-Both-2.result.now c.args.input c.in-Both.is c.get-in-Both.ensures c.get-in-Both-2.ensures c.requires.accepts,
)

pub next-returns-in-Sum : goal.next-returns-in-Sum
next-returns-in-Sum t c = subst (λ S. OnOk c.sum_next.result (TakesNext S c.args.state.now c.args.input c.sum_next.new.state)) (sym (of_sum c.args.self.now c.in-Sum.is)) c.sum_next.ensures

pub next-returns-in-Prod : goal.next-returns-in-Prod
next-returns-in-Prod t c = subst (λ S. OnOk c.prod_next.result (TakesNext S c.args.state.now c.args.input c.prod_next.new.state)) (sym (of_prod c.args.self.now c.in-Prod.is)) c.prod_next.ensures

pub next-returns-in-Count : goal.next-returns-in-Count
next-returns-in-Count t c = subst (λ S. OnOk c.count_next.result (TakesNext S c.args.state.now c.args.input c.count_next.new.state)) (sym (of_count c.args.self.now c.in-Count.is)) c.count_next.ensures

pub next-returns-in-Least : goal.next-returns-in-Least
next-returns-in-Least t c = subst (λ S. OnOk c.found_next.result (TakesNext S c.args.state.now c.args.input c.found_next.new.state)) (sym (of_least c.args.self.now c.in-Least.is)) c.found_next.ensures

pub next-returns-in-Greatest : goal.next-returns-in-Greatest
next-returns-in-Greatest t c = subst (λ S. OnOk c.found_next-in-Greatest.result (TakesNext S c.args.state.now c.args.input c.found_next-in-Greatest.new.state)) (sym (of_greatest c.args.self.now c.in-Greatest.is)) c.found_next-in-Greatest.ensures

pub next-returns-in-LeastAt : goal.next-returns-in-LeastAt
next-returns-in-LeastAt t c = subst (λ S. OnOk c.placed_next.result (TakesNext S c.args.state.now c.args.input c.placed_next.new.state)) (sym (of_least_at c.args.self.now c.in-LeastAt.is)) c.placed_next.ensures

pub next-returns-in-GreatestAt : goal.next-returns-in-GreatestAt
next-returns-in-GreatestAt t c = subst (λ S. OnOk c.placed_next-in-GreatestAt.result (TakesNext S c.args.state.now c.args.input c.placed_next-in-GreatestAt.new.state)) (sym (of_greatest_at c.args.self.now c.in-GreatestAt.is)) c.placed_next-in-GreatestAt.ensures

pub next-returns-in-First : goal.next-returns-in-First
next-returns-in-First t c = subst (λ S. OnOk c.found_next-in-First.result (TakesNext S c.args.state.now c.args.input c.found_next-in-First.new.state)) (sym (of_first c.args.self.now c.in-First.is)) c.found_next-in-First.ensures

pub next-returns-in-Last : goal.next-returns-in-Last
next-returns-in-Last t c = subst (λ S. OnOk c.found_next-in-Last.result (TakesNext S c.args.state.now c.args.input c.found_next-in-Last.new.state)) (sym (of_last c.args.self.now c.in-Last.is)) c.found_next-in-Last.ensures

pub next-returns-in-Any : goal.next-returns-in-Any
next-returns-in-Any t c = subst (λ S. OnOk c.truth_next.result (TakesNext S c.args.state.now c.args.input c.truth_next.new.state)) (sym (of_any c.args.self.now c.in-Any.is)) c.truth_next.ensures

pub next-returns-in-All : goal.next-returns-in-All
next-returns-in-All t c = subst (λ S. OnOk c.truth_next-in-All.result (TakesNext S c.args.state.now c.args.input c.truth_next-in-All.new.state)) (sym (of_all c.args.self.now c.in-All.is)) c.truth_next-in-All.ensures

pub next-returns-in-Listed : goal.next-returns-in-Listed
next-returns-in-Listed t c = subst (λ S. OnOk c.list_next.result (TakesNext S c.args.state.now c.args.input c.list_next.new.state)) (sym (of_listed c.args.self.now c.in-Listed.is)) c.list_next.ensures

pub next-returns-in-Grouped : goal.next-returns-in-Grouped
next-returns-in-Grouped t c =
    subst (λ S. OnOk c.grouped_next.result (TakesNext S c.args.state.now c.args.input c.grouped_next.new.state))
    (sym (of_grouped c.args.self.now c.in-Grouped.inner c.get.result.now c.in-Grouped.is c.get.ensures))
    c.grouped_next.ensures

pub next-returns-in-Both : goal.next-returns-in-Both
next-returns-in-Both t c =
    subst (λ S. OnOk c.both_next.result (TakesNext S c.args.state.now c.args.input c.both_next.new.state))
    (sym (of_both c.args.self.now c.in-Both.left c.in-Both.right c.get-in-Both.result.now c.get-in-Both-2.result.now c.in-Both.is c.get-in-Both.ensures c.get-in-Both-2.ensures))
    c.both_next.ensures

pub unit-returns-in-Sum : goal.unit-returns-in-Sum
unit-returns-in-Sum t c = subst (λ S. IfOk c.sum_unit.result (λ state. S state [])) (sym (of_sum c.args.self.now c.in-Sum.is)) c.sum_unit.ensures

pub unit-returns-in-Prod : goal.unit-returns-in-Prod
unit-returns-in-Prod t c = subst (λ S. IfOk c.prod_unit.result (λ state. S state [])) (sym (of_prod c.args.self.now c.in-Prod.is)) c.prod_unit.ensures

pub unit-returns-in-Count : goal.unit-returns-in-Count
unit-returns-in-Count t c = subst (λ S. IfOk c.count_unit.result (λ state. S state [])) (sym (of_count c.args.self.now c.in-Count.is)) c.count_unit.ensures

pub unit-returns-in-Least : goal.unit-returns-in-Least
unit-returns-in-Least t c = subst (λ S. IfOk c.found_unit.result (λ state. S state [])) (sym (of_least c.args.self.now c.in-Least.is)) c.found_unit.ensures

pub unit-returns-in-Greatest : goal.unit-returns-in-Greatest
unit-returns-in-Greatest t c = subst (λ S. IfOk c.found_unit-in-Greatest.result (λ state. S state [])) (sym (of_greatest c.args.self.now c.in-Greatest.is)) c.found_unit-in-Greatest.ensures

pub unit-returns-in-LeastAt : goal.unit-returns-in-LeastAt
unit-returns-in-LeastAt t c = subst (λ S. IfOk c.placed_unit.result (λ state. S state [])) (sym (of_least_at c.args.self.now c.in-LeastAt.is)) c.placed_unit.ensures

pub unit-returns-in-GreatestAt : goal.unit-returns-in-GreatestAt
unit-returns-in-GreatestAt t c = subst (λ S. IfOk c.placed_unit-in-GreatestAt.result (λ state. S state [])) (sym (of_greatest_at c.args.self.now c.in-GreatestAt.is)) c.placed_unit-in-GreatestAt.ensures

pub unit-returns-in-First : goal.unit-returns-in-First
unit-returns-in-First t c = subst (λ S. IfOk c.found_unit-in-First.result (λ state. S state [])) (sym (of_first c.args.self.now c.in-First.is)) c.found_unit-in-First.ensures

pub unit-returns-in-Last : goal.unit-returns-in-Last
unit-returns-in-Last t c = subst (λ S. IfOk c.found_unit-in-Last.result (λ state. S state [])) (sym (of_last c.args.self.now c.in-Last.is)) c.found_unit-in-Last.ensures

pub unit-returns-in-Any : goal.unit-returns-in-Any
unit-returns-in-Any t c = subst (λ S. IfOk c.truth_unit.result (λ state. S state [])) (sym (of_any c.args.self.now c.in-Any.is)) c.truth_unit.ensures

pub unit-returns-in-All : goal.unit-returns-in-All
unit-returns-in-All t c = subst (λ S. IfOk c.truth_unit-in-All.result (λ state. S state [])) (sym (of_all c.args.self.now c.in-All.is)) c.truth_unit-in-All.ensures

pub unit-returns-in-Listed : goal.unit-returns-in-Listed
unit-returns-in-Listed t c = subst (λ S. IfOk c.list_unit.result (λ state. S state [])) (sym (of_listed c.args.self.now c.in-Listed.is)) c.list_unit.ensures

pub unit-returns-in-Grouped : goal.unit-returns-in-Grouped
unit-returns-in-Grouped t c =
    subst (λ S. IfOk c.grouped_unit.result (λ state. S state []))
    (sym (of_grouped c.args.self.now c.in-Grouped.inner c.get.result.now c.in-Grouped.is c.get.ensures))
    c.grouped_unit.ensures

pub unit-returns-in-Both : goal.unit-returns-in-Both
unit-returns-in-Both t c =
    subst (λ S. IfOk c.both_unit.result (λ state. S state []))
    (sym (of_both c.args.self.now c.in-Both.left c.in-Both.right c.get-in-Both.result.now c.get-in-Both-2.result.now c.in-Both.is c.get-in-Both.ensures c.get-in-Both-2.ensures))
    c.both_unit.ensures
