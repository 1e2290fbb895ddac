use Rattle.std.proofs.Common.{◌≡◌, false, drop}
use Rattle.chain_stages.specs.Cats.{cats_follow}
use Rattle.chain_stages.proofs.cats.cats_follow.Given as goal

-- the stages that are left decide
abbrev pub invariant-loop-stage : goal.invariant-loop-stage
invariant-loop-stage l = cats_follow l.after_inner (drop l.stage-index l.stages) ≡ cats_follow false l.stages
