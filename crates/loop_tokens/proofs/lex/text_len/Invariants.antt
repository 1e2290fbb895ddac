use Rattle.loop_tokens.proofs.Texts.{Scan}
use Rattle.loop_tokens.proofs.lex.text_len.Given as goal

abbrev pub invariant-loop-i : goal.invariant-loop-i
invariant-loop-i l = Scan l.bytes l.i l.escaped
