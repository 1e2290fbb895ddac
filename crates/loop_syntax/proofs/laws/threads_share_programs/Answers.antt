use denote.Param.Send.{param_send, param_sync, arg_send, arg_sync}
use Rattle.loop_syntax.proofs.Shared.{program_send, program_sync}
use Rattle.loop_syntax.proofs.laws.threads_share_programs.Goals as goal

pub is_shared-requires-send-T : goal.is_shared-requires-send-T
is_shared-requires-send-T c κs = search (param_send, arg_send, program_send)

pub is_shared-requires-sync-T : goal.is_shared-requires-sync-T
is_shared-requires-sync-T c κs = search (param_sync, arg_sync, program_sync)
