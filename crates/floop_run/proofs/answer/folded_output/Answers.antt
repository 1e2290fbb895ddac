use denote.Param.Send.{param_sync, arg_sync, sendable}
use Rattle.loop_items.proofs.heads.HeadItems.TheSendSync as heads
use Rattle.loop_lower.proofs.Shared.{legal_sync, chain_sync, row_sync, env_sync}
use Rattle.floop_run.proofs.answer.folded_output.Goals as goal

pub fold_by-requires-sync-J : goal.fold_by-requires-sync-J
fold_by-requires-sync-J g c κs = λ lives. search (param_sync, arg_sync, legal_sync, heads.the_sync, chain_sync, row_sync, env_sync, sendable) depth 30
