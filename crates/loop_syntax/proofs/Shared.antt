-- Programs may cross threads, since their trees may.
use denote.Param.Send.{IsSend, IsSync, sendable}
use Rattle.loop_grammar.proofs.Shared.{tree_field_send, tree_field_sync}
use Rattle.loop_syntax.specs.contracts.program.Program as program

pub program_send : IsSend program.the_row
program_send = search (tree_field_send, sendable) depth 20

pub program_sync : IsSync program.the_row
program_sync = search (tree_field_sync, sendable) depth 20
