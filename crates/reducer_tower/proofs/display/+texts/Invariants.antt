use denote.Shadow.{shadow}
use denote.Text.{Utf8}
use Rattle.std.proofs.Common.{◌≡◌, map}
use Rattle.std.specs.Fmt.{HasWritten, IsPlainFormatter}
use Rattle.std.specs.Map.Iter.{deref_pair}
use Rattle.loop_data.specs.ValueTexts.{separated}
use Rattle.reducer_tower.proofs.DisplayLemmas.{between_after, shown}
use Rattle.reducer_tower.proofs.display.+texts.Given as goal

-- the texts of the groups so far are written, and what goes before the next one is at hand
abbrev pub invariant-write_groups-loop-key : goal.invariant-write_groups-loop-key
invariant-write_groups-loop-key g l =
    shadow (Utf8 l.between)
    × (l.between ≡ between_after l.yielded)
    × (IsPlainFormatter l.initial.f → HasWritten g.W.Write.write_str_gives l.initial.f (separated (map (λ p. shown (deref_pair p)) l.yielded)) l.f)
