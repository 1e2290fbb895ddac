use Rattle.loop_values.proofs.EntryLemmas.{get-view}
use Rattle.loop_values.proofs.env.Env.get.Goals as goal

pub returns : goal.returns
returns c = get-view _ _ _ _ _ c.entry_of.ensures c.as_slice.ensures.value c.self.view_is
