use Rattle.std.proofs.Common.{◌≡◌, ◌++◌, string_bytes}
use Rattle.loop_tokens.specs.Literals.{meaning, text_of}
use Rattle.loop_tokens.proofs.literal.text_of.Given as goal

abbrev pub invariant-loop-c : goal.invariant-loop-c
invariant-loop-c l = string_bytes l.text ++ meaning l.escaped l.c-iterator.rest.now ≡ text_of l.raw
