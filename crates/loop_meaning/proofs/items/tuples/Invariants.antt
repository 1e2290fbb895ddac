use Rattle.std.proofs.Common.{◌≡◌, take, map}
use Rattle.loop_data.specs.declared.value.Value.TheVariants.{Tuple}
use Rattle.loop_meaning.proofs.items.tuples.Given as goal

abbrev pub invariant-loop-parts : goal.invariant-loop-parts
invariant-loop-parts l = l.items ≡ map Tuple (take l.parts-index l.rows)
