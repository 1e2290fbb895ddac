use denote.Param.Send.{param_send, param_sync, arg_send, arg_sync, sendable}
use Rattle.loop_items.proofs.heads.HeadItems.TheSendSync as heads
use Rattle.loop_lower.proofs.Shared.{legal_send, legal_sync, chain_send, chain_sync, row_send, row_sync, env_send, env_sync}
use Rattle.loop_lower.proofs.laws.threads_share_jobs.Goals as goal

pub is_shared-requires-send-T : goal.is_shared-requires-send-T
is_shared-requires-send-T c κs = search (param_send, arg_send, legal_send, legal_sync, heads.the_send, chain_send, row_send, env_send, sendable) depth 30

pub is_shared-requires-sync-T : goal.is_shared-requires-sync-T
is_shared-requires-sync-T c κs = search (param_sync, arg_sync, legal_send, legal_sync, heads.the_sync, chain_sync, row_sync, env_sync, sendable) depth 30
