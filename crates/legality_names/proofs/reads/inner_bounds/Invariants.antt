use Rattle.std.proofs.Common.{◌≡◌, ◌++◌, drop}
use Rattle.std.specs.Prelude.{flat_map}
use Rattle.loop_data.specs.declared.head.Inner.{Inner}
use Rattle.legality_rules.specs.Lines.{range_bounds}
use Rattle.legality_names.proofs.reads.inner_bounds.Given as goal

-- with the bounds of the heads to come, these are all
abbrev pub invariant-loop-head : goal.invariant-loop-head
invariant-loop-head l = l.bounds ++ flat_map (λ (head : Inner). range_bounds head.range) (drop l.head-index l.heads) ≡ flat_map (λ (head : Inner). range_bounds head.range) l.heads
