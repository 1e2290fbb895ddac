use Rattle.std.proofs.Common.{◌≡◌, ◌+◌, ◌++◌, drop}
use Rattle.chain_stages.specs.ChainText.{chain_text, lines_from}
use Rattle.transducer_kit.proofs.chain.Chain.text.Given as goal

-- with the lines of the stages that are left it is the whole text
abbrev pub invariant-loop-stage : goal.invariant-loop-stage
invariant-loop-stage l = record {
  number : l.number ≡ l.stage-index;
  whole : l.text.items ++ lines_from (l.number + 1) (drop l.stage-index l.self.stages) ≡ chain_text l.self.stages;
}
