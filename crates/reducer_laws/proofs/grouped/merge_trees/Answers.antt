use Rattle.std.proofs.Common.{◌≡◌, Some, sym, subst}
use Rattle.reducer_laws.specs.Groups.{KeysRise, state_at}
use Rattle.reducer_laws.proofs.GroupLemmas.{all_split, new_key, there, may_put, put_next}
use Rattle.reducer_laws.proofs.grouped.merge_trees.Goals as goal

pub put_after-requires : goal.put_after-requires
put_after-requires g c =
    let taken = c.loop-key.yielded in
    let key = c.in-Some.key in
    let state = c.in-Some.state in
    let rest = c.next.new.self in
    let all = all_split c.args.right.entries c.into_iter-key-iterator.result c.loop-key.key-iterator rest taken c.next.result (key, state) c.into_iter-key-iterator.ensures.into_iter_gives.0 c.loop-key.yielded_by c.in-Some.is c.next.ensures.steps in
    let new = new_key taken key state rest (subst (λ l. KeysRise l) all c.into_iter-key-iterator.ensures.into_iter_gives.5) in
    may_put (g.R.Reducer.stands c.args.inner.now) c.args.left.entries taken c.loop-key.whole.entries c.args.right.entries key state new
    (subst (λ l. state_at key l ≡ Some state) (sym all) (there taken key state rest new))
    c.requires c.loop-key.invariant

pub loop-key-preserved : goal.loop-key-preserved
loop-key-preserved g c =
    let taken = c.loop-key.yielded in
    let key = c.in-Some.key in
    let state = c.in-Some.state in
    let rest = c.next.new.self in
    let all = all_split c.args.right.entries c.into_iter-key-iterator.result c.loop-key.key-iterator rest taken c.next.result (key, state) c.into_iter-key-iterator.ensures.into_iter_gives.0 c.loop-key.yielded_by c.in-Some.is c.next.ensures.steps in
    let new = new_key taken key state rest (subst (λ l. KeysRise l) all c.into_iter-key-iterator.ensures.into_iter_gives.5) in
    put_next (g.R.Reducer.stands c.args.inner.now) c.args.left.entries taken c.loop-key.whole.entries c.put_after.new.tree.entries key state new c.loop-key.invariant c.in_ok-put_after.ensures
