use Rattle.std.proofs.Common.{◌≡◌, ◌++◌, ◌∷◌, [], map, refl, sym, ap, subst, ◌∙◌}
use Rattle.std.specs.Map.Iter.{deref_pair}
use Rattle.std.proofs.lemmas.List.{map-append}
use Rattle.std.proofs.lemmas.Map.Iter.{iter_end, rest_so_far, rest_more}
use Rattle.reducer_laws.specs.Groups.{KeysRise, HoldsAt}
use Rattle.reducer_laws.proofs.GroupLemmas.{new_key}
use Rattle.reducer_tower.proofs.CopyLemmas.{Copied, copied_none, copied_push, copied_all}
use Rattle.reducer_tower.proofs.state.+copies.Goals as goal

pub copy_groups-loop-key-init : goal.copy_groups-loop-key-init
copy_groups-loop-key-init t c = subst (λ g. Copied [] g) (sym c.new-copies.ensures) copied_none

pub copy_groups-loop-key-preserved : goal.copy_groups-loop-key-preserved
copy_groups-loop-key-preserved t c =
    let key = c.in-Some.key.now in
    let held = c.in-Some.state.now in
    let taken = map deref_pair c.loop-key.yielded in
    let start = sym (c.into_iter-key-iterator.ensures.into_iter_gives ∙ c.iter-key-items.ensures.rest) in
    let all = start ∙ rest_so_far deref_pair c.loop-key.yielded c.into_iter-key-iterator.result c.loop-key.key-iterator c.loop-key.yielded_by
    ∙ ap (λ l. taken ++ l) (rest_more deref_pair c.loop-key.key-iterator c.next.new.self c.next.result (c.in-Some.key, c.in-Some.state) c.in-Some.is c.next.ensures.steps) in
    let none = new_key taken key held c.next.new.self (subst (λ l. KeysRise l) all c.iter-key-items.ensures.rising) in
    let named = subst (λ z. HoldsAt z c.in_ok-copy-2.field-0 c.loop-key.copies c.insert.new.self) c.in_ok-copy.ensures.text c.in_ok-insert.ensures.holds in
    let put = subst (λ s. HoldsAt key s c.loop-key.copies c.insert.new.self) c.in_ok-copy-2.ensures named in
    subst (λ l. Copied l c.insert.new.self) (sym (map-append deref_pair c.loop-key.yielded ((c.in-Some.key, c.in-Some.state) ∷ [])))
    (copied_push taken c.loop-key.copies c.insert.new.self key held none put c.loop-key.invariant)

pub copy_groups-returns : goal.copy_groups-returns
copy_groups-returns t c =
    let start = c.into_iter-key-iterator.ensures.into_iter_gives ∙ c.iter-key-items.ensures.rest in
    let whole = (iter_end deref_pair c.args.groups.now c.loop-key.yielded c.into_iter-key-iterator.result c.loop-key.key-iterator c.next.new.self c.next.result start c.loop-key.yielded_by c.in-None.is c.next.ensures.steps).0 in
    copied_all c.args.groups.now c.loop-key.copies c.iter-key-items.ensures.rising (subst (λ l. Copied l c.loop-key.copies) whole c.loop-key.invariant)
