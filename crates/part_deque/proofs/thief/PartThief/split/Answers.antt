use Rattle.std.proofs.Common.{rules, ◌≡◌, ◌≤◌, ◌+◌, ◌*◌, sym, subst, arith}
use Rattle.std.specs.Vec.{vec_len}
use Rattle.crossbeam_deque.specs.Handles.{stealer_deque}
use Rattle.part_deque.specs.Ends.{ThiefEnd}
use Rattle.part_deque.specs.Rights.{account_of}
use Rattle.part_deque.specs.Steps.{right_weight}
use Rattle.part_deque.proofs.Halving.{AreHalved, halved, stays, goes, rights_stay, rights_go}
use Rattle.part_deque.proofs.thief.PartThief.split.Goals as goal

pub invariant_of-result : goal.invariant_of-result
invariant_of-result c =
    let heavy = subst (λ (t : ThiefEnd). 2 * right_weight ≤ t.weight) (sym c.self.view_is) c.requires.rights in
    let same : c.len.result ≡ vec_len c.self.inside.spare = search rules in
    let rest : vec_len c.pop.new.self + 1 ≡ vec_len c.in_ok-spare.spare = search rules in
    let h : AreHalved (vec_len c.self.inside.spare + 1) (vec_len c.split_off.new.self + 1) (vec_len c.pop.new.self + 1) =
    halved _ _ _ _ _ c.self.invariant.halved heavy c.in_ok-spare.ensures.len c.in_ok-spare.ensures.tail_len same rest in
    let one : (stealer_deque c.in_ok-stealer.stealer).0 ≡ (stealer_deque c.self.inside.stealer).0 = search rules in
    let deque : stealer_deque c.in_ok-stealer.stealer ≡ stealer_deque c.self.inside.stealer = λ i. (one i, (stealer_deque c.self.inside.stealer).1) in
    let gone = rights_go _ _ _ _ c.self.invariant.spare _ _ _ _ c.in-Some.right deque c.in_ok-spare.ensures.tail c.in-Some.ensures.items in
    record {
      right = gone.used;
      spare = gone.spare;
      most = (let m = c.self.invariant.most in let r = h.right_is in omega arith);
      halved = h.right_power;
    }

pub invariant_of-self-2 : goal.invariant_of-self-2
invariant_of-self-2 c =
    let heavy = subst (λ (t : ThiefEnd). 2 * right_weight ≤ t.weight) (sym c.self.view_is) c.requires.rights in
    let same : c.len.result ≡ vec_len c.self.inside.spare = search rules in
    let rest : vec_len c.pop.new.self + 1 ≡ vec_len c.in_ok-spare.spare = search rules in
    let h : AreHalved (vec_len c.self.inside.spare + 1) (vec_len c.split_off.new.self + 1) (vec_len c.pop.new.self + 1) =
    halved _ _ _ _ _ c.self.invariant.halved heavy c.in_ok-spare.ensures.len c.in_ok-spare.ensures.tail_len same rest in
    record {
      right = c.self.invariant.right;
      spare = rights_stay _ _ _ _ c.self.invariant.spare _ _ c.in_ok-spare.ensures.items;
      most = (let m = c.self.invariant.most in let r = h.left_is in omega arith);
      halved = h.left_power;
    }

pub returns-clause-new : goal.returns-clause-new
returns-clause-new c =
    let heavy = subst (λ (t : ThiefEnd). 2 * right_weight ≤ t.weight) (sym c.self.view_is) c.requires.rights in
    let same : c.len.result ≡ vec_len c.self.inside.spare = search rules in
    let rest : vec_len c.pop.new.self + 1 ≡ vec_len c.in_ok-spare.spare = search rules in
    let h : AreHalved (vec_len c.self.inside.spare + 1) (vec_len c.split_off.new.self + 1) (vec_len c.pop.new.self + 1) =
    halved _ _ _ _ _ c.self.invariant.halved heavy c.in_ok-spare.ensures.len c.in_ok-spare.ensures.tail_len same rest in
    let one : (stealer_deque c.in_ok-stealer.stealer).0 ≡ (stealer_deque c.self.inside.stealer).0 = search rules in
    let deque : stealer_deque c.in_ok-stealer.stealer ≡ stealer_deque c.self.inside.stealer = λ i. (one i, (stealer_deque c.self.inside.stealer).1) in
    let gone = rights_go _ _ _ _ c.self.invariant.spare _ _ _ _ c.in-Some.right deque c.in_ok-spare.ensures.tail c.in-Some.ensures.items in
    goes _ _ _ (account_of c.self.inside.right) (account_of c.in-Some.right) _ _ _ h.right_is one gone.fresh c.self.view_is

pub returns-clause-left : goal.returns-clause-left
returns-clause-left c =
    let heavy = subst (λ (t : ThiefEnd). 2 * right_weight ≤ t.weight) (sym c.self.view_is) c.requires.rights in
    let same : c.len.result ≡ vec_len c.self.inside.spare = search rules in
    let rest : vec_len c.pop.new.self + 1 ≡ vec_len c.in_ok-spare.spare = search rules in
    let h : AreHalved (vec_len c.self.inside.spare + 1) (vec_len c.split_off.new.self + 1) (vec_len c.pop.new.self + 1) =
    halved _ _ _ _ _ c.self.invariant.halved heavy c.in_ok-spare.ensures.len c.in_ok-spare.ensures.tail_len same rest in
    stays _ _ (account_of c.self.inside.right) _ _ _ h.left_is c.self.view_is
