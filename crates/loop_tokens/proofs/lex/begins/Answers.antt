use Rattle.loop_tokens.proofs.AtWords.{begins_is}
use Rattle.loop_tokens.proofs.lex.begins.Goals as goal

pub returns : goal.returns
returns c = begins_is c.args.bytes.now c.args.word.now c.starts_with.result c.starts_with.ensures.value
