use denote.Param.Send.{param_send, param_sync, arg_send, arg_sync}
use Rattle.legality_check.proofs.Shared.{legal_send, legal_sync}
use Rattle.legality_check.proofs.laws.threads_share_legal_programs.Goals as goal

pub is_shared-requires-send-T : goal.is_shared-requires-send-T
is_shared-requires-send-T c κs = search (param_send, arg_send, legal_send)

pub is_shared-requires-sync-T : goal.is_shared-requires-sync-T
is_shared-requires-sync-T c κs = search (param_sync, arg_sync, legal_sync)
