use Rattle.std.proofs.Common.{◌≡◌, ◌++◌, map, drop}
use Rattle.std.specs.Prelude.{◌&&◌, not, filter}
use Rattle.loop_data.specs.declared.head.Binding.{Binding}
use Rattle.legality_rules.specs.Scopes.{is_in}
use Rattle.legality_scratches.proofs.scratches.carriable.Given as goal

-- with the names of the lines to come, these are all
abbrev pub invariant-loop-binding : goal.invariant-loop-binding
invariant-loop-binding l = l.names ++ filter (λ n. is_in l.assigned n && not (is_in l.outer n)) (map (λ (b : Binding). b.name) (drop l.binding-index l.scratch)) ≡ filter (λ n. is_in l.assigned n && not (is_in l.outer n)) (map (λ (b : Binding). b.name) l.scratch)
