use Rattle.loop_items.proofs.LawLemmas.{axes_count}
use Rattle.loop_items.proofs.laws.axes_count_items.Goals as goal

pub returns : goal.returns
returns c = axes_count
