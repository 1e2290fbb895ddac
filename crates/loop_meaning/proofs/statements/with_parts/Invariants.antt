use Rattle.std.proofs.Common.{◌≡◌}
use Rattle.loop_meaning.specs.Statements.{with_parts}
use Rattle.loop_meaning.proofs.statements.with_parts.Given as goal

-- the parts that are left to bind
abbrev pub invariant-loop-name : goal.invariant-loop-name
invariant-loop-name l = with_parts l.names l.name-iterator.a.rest.now l.name-iterator.b.rest.items ≡ with_parts l.initial.names l.pattern l.fn.parts
