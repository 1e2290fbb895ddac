use Rattle.loop_values.proofs.SoundLemmas.{sound}
use Rattle.loop_values.proofs.laws.value_fits_kind.Goals as goal

pub returns : goal.returns
returns c = λ x names env k g b h. sound x names env k g b h
