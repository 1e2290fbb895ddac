use denote.Param.Send.{param_send, param_sync, arg_send, arg_sync}
use Rattle.loop_grammar.proofs.Shared.{tree_send, tree_sync}
use Rattle.loop_grammar.proofs.laws.threads_share_trees.Goals as goal

pub is_shared-requires-send-T : goal.is_shared-requires-send-T
is_shared-requires-send-T c κs = search (param_send, arg_send, tree_send)

pub is_shared-requires-sync-T : goal.is_shared-requires-sync-T
is_shared-requires-sync-T c κs = search (param_sync, arg_sync, tree_sync)
