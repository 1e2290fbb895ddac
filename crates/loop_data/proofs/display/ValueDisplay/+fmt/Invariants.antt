use denote.Shadow.{shadow}
use denote.Text.{Utf8}
use Rattle.std.proofs.Common.{◌≡◌, take, map}
use Rattle.std.specs.Fmt.{HasWritten, IsPlainFormatter}
use Rattle.loop_data.specs.ValueTexts.{separated, value_text}
use Rattle.loop_data.proofs.TextLemmas.{between_after}
use Rattle.loop_data.proofs.display.ValueDisplay.+fmt.Given as goal

-- the texts of the parts so far are written, and what goes before the next one is at hand
abbrev pub invariant-loop-part : goal.invariant-loop-part
invariant-loop-part g l =
    shadow (Utf8 l.between)
    × (l.between ≡ between_after (take l.part-index l.part-items))
    × (IsPlainFormatter l.initial.f → HasWritten g.W.Write.write_str_gives l.initial.f (separated (map value_text (take l.part-index l.part-items))) l.f)
