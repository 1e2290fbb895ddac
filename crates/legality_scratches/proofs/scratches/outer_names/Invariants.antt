use Rattle.std.proofs.Common.{◌≡◌, ◌++◌, map, drop}
use Rattle.loop_data.specs.declared.head.Binding.{Binding}
use Rattle.legality_scratches.proofs.scratches.outer_names.Given as goal

-- with the names of the lines to come, these are all
abbrev pub invariant-loop-binding : goal.invariant-loop-binding
invariant-loop-binding l = l.names ++ map (λ (b : Binding). b.name) (drop l.binding-index l.binding-items) ≡ l.initial.names ++ map (λ (b : Binding). b.name) l.binding-items
