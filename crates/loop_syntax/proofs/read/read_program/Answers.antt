use Rattle.loop_grammar.specs.Texts.{not_utf8}
use Rattle.loop_syntax.proofs.ReadLemmas.{not_ok}
use Rattle.loop_syntax.proofs.read.read_program.Goals as goal

pub returns-in-Err-clause-refused : goal.returns-in-Err-clause-refused
returns-in-Err-clause-refused c = λ ne. not_utf8 (λ u. not_ok c.utf8_text.result c.in-Err.bad c.in-Err.is (c.utf8_text.ensures.utf8.1 u)) c.in-Err.ensures.byte
