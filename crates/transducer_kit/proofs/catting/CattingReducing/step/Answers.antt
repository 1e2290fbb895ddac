use Rattle.std.proofs.Common.{◌≡◌, ℕ, suc, ◌+◌, ◌-◌, true, false, Ok, arith, refl}
use Rattle.chain_stages.specs.declared.step_end.StepEnd.TheVariants.{Going}
use Rattle.transducer_kit.specs.Answers.{is_going}
use Rattle.transducer_kit.proofs.Feeding.{went_on, ended_elements}
use Rattle.transducer_kit.proofs.catting.CattingReducing.step.Goals as goal

pub step_element-answer-requires : goal.step_element-answer-requires
step_element-answer-requires g c =
    let n : ℕ = c.args.item.1 - (c.loop-before.before + 1) in
    let e : c.loop-before.before + suc n ≡ c.args.item.1 = omega arith in
    (c.loop-before.invariant.left (suc n) e).0

pub returns : goal.returns
returns g c =
    let e : c.loop-before.before + 0 ≡ c.args.item.1 = omega arith in
    c.loop-before.invariant.told 0 (Ok Going) c.loop-before.state e (refl, refl)

pub returns-then-not-goes_on : goal.returns-then-not-goes_on
returns-then-not-goes_on g c =
    let n : ℕ = c.args.item.1 - (c.loop-before.before + 1) in
    let e : c.loop-before.before + suc n ≡ c.args.item.1 = omega arith in
    let h : is_going c.step_element-answer.result ≡ false = cc in
    c.loop-before.invariant.told (suc n) c.step_element-answer.result c.step_element-answer.new.state e (ended_elements _ _ _ n _ _ _ h c.step_element-answer.ensures)

pub loop-before-preserved : goal.loop-before-preserved
loop-before-preserved g c =
    let t : is_going c.step_element-answer.result ≡ true = cc in
    let given = rw (went_on _ t) at c.step_element-answer.ensures in
    record {
      left = λ n e. (c.loop-before.invariant.left (suc n) (omega arith)).1 c.step_element-answer.new.state given;
      told = λ n answer new e h. c.loop-before.invariant.told (suc n) answer new (omega arith) (Ok Going, c.step_element-answer.new.state, given, h);
    }
