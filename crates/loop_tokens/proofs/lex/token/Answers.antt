use Rattle.std.proofs.Common.{sym, ◌∙◌}
use Rattle.loop_tokens.proofs.Ends.{token_cut}
use Rattle.loop_tokens.proofs.lex.token.Goals as goal

pub split_at-requires : goal.split_at-requires
split_at-requires c =
    let e = sym c.as_bytes.ensures.value ∙ c.in_ok-first.ensures in
    token_cut c.args.text.now c.in_ok-token_len.field-0 c.utf8.text (rw e c.in_ok-token_len.ensures)
