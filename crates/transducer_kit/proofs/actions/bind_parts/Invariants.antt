use Rattle.std.proofs.Common.{◌≡◌}
use Rattle.loop_meaning.specs.Statements.{with_parts}
use Rattle.transducer_kit.proofs.actions.bind_parts.Given as goal

-- the parts that are left to bind
abbrev pub invariant-loop-name : goal.invariant-loop-name
invariant-loop-name l = with_parts l.env l.name-iterator.a.rest.now l.name-iterator.b.rest.now ≡ with_parts l.initial.env l.names l.parts
