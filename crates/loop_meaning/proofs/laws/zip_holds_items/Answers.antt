use Rattle.loop_meaning.proofs.CountLemmas.{zip_holds}
use Rattle.loop_meaning.proofs.HeadItems.{zip_axes, zip_heads}
use Rattle.loop_meaning.proofs.laws.zip_holds_items.Goals as goal

pub returns-clause-heads : goal.returns-clause-heads
returns-clause-heads c = zip_heads

pub returns-clause-axes : goal.returns-clause-axes
returns-clause-axes c = zip_axes

pub returns-clause-lists : goal.returns-clause-lists
returns-clause-lists c = zip_holds
