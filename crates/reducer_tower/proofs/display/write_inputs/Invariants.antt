use denote.Shadow.{shadow}
use denote.Text.{Utf8}
use Rattle.std.proofs.Common.{◌≡◌, take, map}
use Rattle.std.specs.Fmt.{HasWritten, IsPlainFormatter}
use Rattle.std.specs.Prelude.{codes}
use Rattle.loop_data.specs.ValueTexts.{separated, value_text}
use Rattle.reducer_tower.proofs.DisplayLemmas.{between_after}
use Rattle.reducer_tower.proofs.display.write_inputs.Given as goal

-- the texts of the inputs so far are written, and what goes before the next one is at hand
abbrev pub invariant-loop-input : goal.invariant-loop-input
invariant-loop-input g l =
    shadow (Utf8 l.between)
    × (l.between ≡ between_after (take l.input-index l.inputs))
    × (IsPlainFormatter l.initial.f → HasWritten g.W.Write.write_str_gives l.initial.f (separated (map value_text (take l.input-index l.inputs))) l.f)
