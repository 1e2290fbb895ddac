-- Legal programs may cross threads, since programs may.
use denote.Param.Send.{IsSend, IsSync, sendable}
use Rattle.loop_syntax.proofs.Shared.{program_send, program_sync}
use Rattle.legality_check.specs.contracts.program.LegalProgram as legal

pub legal_send : IsSend legal.the_row
legal_send = search (program_send, sendable) depth 20

pub legal_sync : IsSync legal.the_row
legal_sync = search (program_sync, sendable) depth 20
