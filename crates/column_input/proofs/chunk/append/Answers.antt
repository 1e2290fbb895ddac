use Rattle.column_input.proofs.ChunkLemmas.{next_appended, take-past}
use Rattle.column_input.proofs.chunk.append.Goals as goal

pub loop-field-preserved : goal.loop-field-preserved
loop-field-preserved c =
    let steps = rw c.in-Some.is at c.next.ensures.steps in
    let same = c.loop-field.invariant.0 in (
      rw steps.0 same,
      next_appended _ _ _ _ _ _ _ c.loop-field.invariant.1 c.in_ok-push.ensures (rw same at steps.1) steps.2,
    )

pub returns : goal.returns
returns c =
    let steps = rw c.in-None.is at c.next.ensures.steps in
    let past = rw c.loop-field.invariant.0 at steps.1 in
    rw (← take-past _ _ past) c.loop-field.invariant.1
