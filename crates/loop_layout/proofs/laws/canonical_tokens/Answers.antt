use Rattle.loop_layout.proofs.KeptLines.{canonical_readable, canonical_utf8}
use Rattle.loop_layout.proofs.laws.canonical_tokens.Goals as goal

pub returns : goal.returns
returns c = record { readable = canonical_readable; utf8 = canonical_utf8 }
