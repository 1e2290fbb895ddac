use Rattle.std.proofs.Common.{refl}
use Rattle.transducer_kit.proofs.mapping.MappingReducing.step.Goals as goal

pub step-requires : goal.step-requires
step-requires g c = c.requires.1 _ c.in-Ok.made c.in-Ok.ensures refl
