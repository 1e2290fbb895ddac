use Rattle.std.proofs.Common.{arith}
use Rattle.chain_stages.proofs.FewLemmas.{few_leave}
use Rattle.transducer_kit.proofs.chain_laws.few_pairs_may_be_folded.Goals as goal

pub returns : goal.returns
returns c = λ row state inputs stages names follow few fit stand room.
    (fit, (inputs, stand, omega (arith, few_leave stages names follow few, room)))
