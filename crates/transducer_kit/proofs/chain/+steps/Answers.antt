use Rattle.std.proofs.Common.{◌≡◌, ◌+◌, ◌-◌, ◌<◌, ◌≤◌, true, false, Some, drop, sym, ap, subst, ◌∙◌, rules, arith}
use Rattle.chain_stages.specs.declared.step_end.StepEnd.{StepEnd}
use Rattle.chain_stages.specs.declared.element.Element.{Element}
use Rattle.chain_stages.specs.Chains.{chain_output}
use Rattle.chain_stages.specs.Stages.{alone, through}
use Rattle.transducer_kit.specs.Enters.{Enters}
use Rattle.transducer_kit.specs.Steps.{Emits, end_is_going, let_through}
use Rattle.transducer_kit.proofs.StepLemmas.{emits_none, emits_one, enters_next, from_stage}
use Rattle.transducer_kit.proofs.SpreadLemmas.{at_first, ends_last, ends_there, last_one, not_going, ok_map, one_more, spread_at, spread_enters, went_on}
use Rattle.transducer_kit.proofs.chain.+steps.Goals as goal

-- no item
pub spread_at-returns-then-count-eq0 : goal.spread_at-returns-then-count-eq0
spread_at-returns-then-count-eq0 t c =
    let none : c.args.element.inner.count ≤ 0 = omega (arith, c.if-count-eq0.true) in
    let rest = drop c.args.at c.args.stages.now in
    ends_last rest c.args.name.now c.args.element 0 c.args.pairs.now c.args.pairs.now none (at_first rest c.args.name.now c.args.element c.args.pairs.now)

-- the next element
pub spread_at-step_at-requires : goal.spread_at-step_at-requires
spread_at-step_at-requires t c =
    let name = c.args.name.now in
    let e = c.args.element in
    let k = c.loop-before.before in
    let some : 1 ≤ e.inner.count = omega (arith, c.loop-before-test.true) in
    let same : k + 1 - 1 ≡ k = omega arith in
    let is : c.in_ok-next.next ≡ spread_at name e k = c.in_ok-next.ensures ∙ ap (spread_at name e) same in
    (search rules, (c.requires.within, (false, c.requires.follow, subst (Enters false) (sym is) (spread_enters name e _ some c.requires.enters))))

pub spread_at-returns-then-not-is_going : goal.spread_at-returns-then-not-is_going
spread_at-returns-then-not-is_going t c =
    let rest = drop c.args.at c.args.stages.now in
    let name = c.args.name.now in
    let e = c.args.element in
    let k = c.loop-before.before in
    let less : k < e.inner.count = omega (arith, c.loop-before-test.true) in
    let same : k + 1 - 1 ≡ k = omega arith in
    let is : c.in_ok-next.next ≡ spread_at name e k = ◌∙◌ {b = spread_at name e (k + 1 - 1)} c.in_ok-next.ensures (ap (spread_at name e) same) in
    let over : end_is_going c.in_ok-end.end ≡ false = cc in
    ends_there rest name e k c.args.pairs.now c.loop-before.pairs c.step_at.new.pairs c.in_ok-end.end less c.loop-before.invariant (not_going c.in_ok-end.end over)
    (subst (λ (y : Element). Emits (chain_output rest (alone y)) c.loop-before.pairs c.in_ok-end.end c.step_at.new.pairs) is c.in_ok-end.ensures)

pub spread_at-loop-before-preserved : goal.spread_at-loop-before-preserved
spread_at-loop-before-preserved t c =
    let rest = drop c.args.at c.args.stages.now in
    let name = c.args.name.now in
    let e = c.args.element in
    let k = c.loop-before.before in
    let less : k < e.inner.count = omega (arith, c.loop-before-test.true) in
    let same : k + 1 - 1 ≡ k = omega arith in
    let is : c.in_ok-next.next ≡ spread_at name e k = c.in_ok-next.ensures ∙ ap (spread_at name e) same in
    let on : end_is_going c.in_ok-end.end ≡ true = cc in
    one_more rest name e k c.args.pairs.now c.loop-before.pairs c.step_at.new.pairs less c.loop-before.invariant
    (subst (λ (end : StepEnd). Emits (chain_output rest (alone (spread_at name e k))) c.loop-before.pairs end c.step_at.new.pairs) (went_on c.in_ok-end.end on)
    (subst (λ (y : Element). Emits (chain_output rest (alone y)) c.loop-before.pairs c.in_ok-end.end c.step_at.new.pairs) is c.in_ok-end.ensures))

-- the last element
pub spread_at-step_at-requires-2 : goal.spread_at-step_at-requires-2
spread_at-step_at-requires-2 t c =
    let name = c.args.name.now in
    let e = c.args.element in
    let k = c.loop-before.before in
    let whole : k + 1 ≡ e.inner.count = omega (arith, c.loop-before-test.false, c.loop-before.auto.before-end, c.if-count-eq0.false) in
    let some : 1 ≤ e.inner.count = omega (arith, whole) in
    let same : e.inner.count - 1 ≡ k = omega (arith, whole) in
    let is : c.in_ok-last.last ≡ spread_at name e k = c.in_ok-last.ensures ∙ ap (spread_at name e) same in
    (search rules, (c.requires.within, (false, c.requires.follow, subst (Enters false) (sym is) (spread_enters name e _ some c.requires.enters))))

pub spread_at-returns : goal.spread_at-returns
spread_at-returns t c =
    let rest = drop c.args.at c.args.stages.now in
    let name = c.args.name.now in
    let e = c.args.element in
    let k = c.loop-before.before in
    let whole : k + 1 ≡ e.inner.count = omega (arith, c.loop-before-test.false, c.loop-before.auto.before-end, c.if-count-eq0.false) in
    let same : e.inner.count - 1 ≡ k = omega (arith, whole) in
    let is : c.in_ok-last.last ≡ spread_at name e k = c.in_ok-last.ensures ∙ ap (spread_at name e) same in
    ok_map c.step_at-2.result _ _ (λ end f.
    last_one rest name e k c.args.pairs.now c.loop-before.pairs c.step_at-2.new.pairs end whole c.loop-before.invariant
    (subst (λ (y : Element). Emits (chain_output rest (alone y)) c.loop-before.pairs end c.step_at-2.new.pairs) is f)) c.step_at-2.ensures

-- ---- a stage other than `Cat`

pub step_at-returns-in-None-taken : goal.step_at-returns-in-None-taken
step_at-returns-in-None-taken t c =
    let stages = c.args.stages.now in
    let stage = c.in-Some.stage.now in
    let is = from_stage stages c.args.at stage c.in-Some.ensures.lookup.3.0 c.in-Some.ensures.lookup.1 in
    emits_none (drop c.args.at stages) stage (drop (c.args.at + 1) stages) c.args.element is c.args.pairs.now _ (search rules)

pub step_at-step_at-requires : goal.step_at-step_at-requires
step_at-step_at-requires t c =
    let stages = c.args.stages.now in
    let stage = c.in-Some.stage.now in
    let rest = drop (c.args.at + 1) stages in
    let is = from_stage stages c.args.at stage c.in-Some.ensures.lookup.3.0 c.in-Some.ensures.lookup.1 in
    let took = c.in_ok-taken-in-None in (
      search rules,
      (
        omega (arith, c.in-Some.ensures.lookup.3.0),
        enters_next (drop c.args.at stages) stage rest c.args.element c.in-Some-taken.next is c.requires.enters (took.ensures.enters c.in-Some-taken.next c.in-Some-taken.is),
      ),
    )

pub step_at-returns-in_ok-end-in-Some-taken : goal.step_at-returns-in_ok-end-in-Some-taken
step_at-returns-in_ok-end-in-Some-taken t c =
    let stages = c.args.stages.now in
    let stage = c.in-Some.stage.now in
    let rest = drop (c.args.at + 1) stages in
    let is = from_stage stages c.args.at stage c.in-Some.ensures.lookup.3.0 c.in-Some.ensures.lookup.1 in
    let took = c.in_ok-taken-in-None in
    let lets : let_through (Some c.in-Some-taken.next) took.after ≡ through stage c.args.element =
    ap (λ o. let_through o took.after) (sym c.in-Some-taken.is) ∙ took.ensures.through in
    let end = c.in_ok-end-in-Some-taken.end in
    subst (λ (x : StepEnd). Emits (chain_output (drop c.args.at stages) (alone c.args.element)) c.args.pairs.now x c.step_at.new.pairs) (sym c.unless_ended.ensures)
    (emits_one (drop c.args.at stages) stage rest c.args.element is c.in-Some-taken.next c.args.pairs.now c.step_at.new.pairs end took.after lets c.in_ok-end-in-Some-taken.ensures)
