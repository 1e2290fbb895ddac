use Rattle.std.proofs.Common.{drop, Ok}
use Rattle.chain_stages.specs.declared.step_end.StepEnd.TheVariants.{Going}
use Rattle.transducer_kit.specs.Answers.{Answer}
use Rattle.transducer_kit.specs.Passing.{FeedsAll}
use Rattle.transducer_kit.specs.Lists.{TakesAll}
use Rattle.transducer_kit.proofs.folding.step_all.Given as goal

-- what is left may be taken, and what is given by it is given by all
abbrev pub invariant-loop-item : goal.invariant-loop-item
invariant-loop-item g l =
    let takes = g.R.Reducing.takes l.reducing in
    let gives = g.R.Reducing.gives l.reducing in
    record {
      left : TakesAll takes gives (drop l.item-index l.items) l.state;
      told : (answer : Answer) (new : g.row.R-State.Denot) → FeedsAll gives (drop l.item-index l.items) (Ok Going) l.state answer new → FeedsAll gives l.items (Ok Going) l.fn.state answer new;
    }
