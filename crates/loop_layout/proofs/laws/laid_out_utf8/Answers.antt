use Rattle.loop_layout.proofs.WrittenUtf8.{laid_out_utf8, rows_utf8, escaped_utf8, numbers_utf8}
use Rattle.loop_layout.proofs.ReadUtf8.{held_utf8, meaning_utf8}
use Rattle.loop_layout.proofs.laws.laid_out_utf8.Goals as goal

pub returns : goal.returns
returns c = record { line = laid_out_utf8; rows = rows_utf8; escaped = escaped_utf8; numbers = numbers_utf8; held = held_utf8; meaning = meaning_utf8 }
