use Rattle.std.proofs.Common.{Ok, refl, rules}
use Rattle.transducer_kit.proofs.map_splatting.MapSplattingReducing.step.Goals as goal

pub step-requires : goal.step-requires
step-requires g c = c.requires.1 (Ok c.in-Ok.made) c.in-Ok.made (c.as_slice.result, search rules, search rules) refl
