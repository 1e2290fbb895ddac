use Rattle.std.proofs.Common.{length}
use denote.Shadow.{shadow}
use denote.Text.{Utf8}
use Rattle.loop_tokens.proofs.Holding.{Ahead}
use Rattle.loop_tokens.proofs.lex.tokens.Given as goal

abbrev pub invariant-loop-rest : goal.invariant-loop-rest
invariant-loop-rest l = record { text : shadow (Utf8 l.rest); ahead : Ahead l.line l.tokens.items l.rest }

abbrev pub decreases-loop-rest : goal.decreases-loop-rest
decreases-loop-rest l = length l.rest
