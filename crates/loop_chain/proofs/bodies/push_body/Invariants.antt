use Rattle.std.proofs.Common.{◌≡◌, ◌+◌, ◌++◌, drop}
use Rattle.loop_stages.specs.Lowering.{body_stages}
use Rattle.loop_chain.proofs.bodies.push_body.Given as goal

-- the stages of the statements that are left make the whole; each statement takes room from those before the split statement
abbrev pub invariant-loop-before : goal.invariant-loop-before
invariant-loop-before l = record {
  room : l.room + l.before ≡ 64;
  stages : l.stages.items ++ body_stages l.room (drop l.before l.body) ≡ l.initial.stages.items ++ body_stages 64 l.body;
}
