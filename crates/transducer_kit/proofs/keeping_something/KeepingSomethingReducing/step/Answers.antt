use Rattle.std.proofs.Common.{Ok, Some, refl, rules}
use Rattle.transducer_kit.proofs.keeping_something.KeepingSomethingReducing.step.Goals as goal

pub step-requires : goal.step-requires
step-requires g c = c.requires.1 (Ok (Some c.in-Ok-Some.made)) c.in-Ok-Some.made (search rules) refl
