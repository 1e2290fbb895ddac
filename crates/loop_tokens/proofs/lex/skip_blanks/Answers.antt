use Rattle.loop_tokens.proofs.Ends.{blank_cut}
use Rattle.loop_tokens.proofs.lex.skip_blanks.Goals as goal

pub range_from-requires : goal.range_from-requires
range_from-requires c = λ some. rw (c.blanks_len.ensures.run, c.as_bytes.ensures.value) (blank_cut c.args.text.now c.utf8.text)
