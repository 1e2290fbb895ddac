use Rattle.std.proofs.Common.{◌≡◌, ◌++◌, map, drop}
use Rattle.loop_data.specs.declared.head.Inner.{Inner}
use Rattle.legality_names.proofs.reads.head_names.Given as goal

-- with the names of the heads to come, these are all
abbrev pub invariant-loop-inner : goal.invariant-loop-inner
invariant-loop-inner l = l.names ++ map (λ (i : Inner). i.name) (drop l.inner-index l.inner-items) ≡ l.initial.names ++ map (λ (i : Inner). i.name) l.inner-items
