use Rattle.std.proofs.Common.{◌≡◌, ◌≤◌, take}
use Rattle.loop_meaning.specs.declared.runs.PlainStop.TheVariants.{Ran}
use Rattle.loop_meaning.specs.Runs.{loop_run}
use Rattle.loop_meaning.proofs.runs.loop_run.Given as goal

-- the items so far ran to their end, and at most each of them was skipped
abbrev pub invariant-loop-i : goal.invariant-loop-i
invariant-loop-i l = record {
  is : l.run ≡ loop_run l.program l.fn.store (take l.i l.items) 1;
  ran : l.run.stop ≡ Ran;
  few : l.run.skipped ≤ l.i;
}
