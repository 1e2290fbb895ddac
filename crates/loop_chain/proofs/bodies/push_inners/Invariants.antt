use Rattle.std.proofs.Common.{◌≡◌, ◌++◌, drop}
use Rattle.loop_stages.specs.Lowering.{inner_stages}
use Rattle.loop_chain.proofs.bodies.push_inners.Given as goal

-- the stages of the heads that are left make the whole
abbrev pub invariant-loop-head : goal.invariant-loop-head
invariant-loop-head l = l.stages.items ++ inner_stages l.line (drop l.head-index l.heads) ≡ l.initial.stages.items ++ inner_stages l.line l.heads
