-- The exit status of the program for each status of a call.
-- Source: this project.
use Rattle.std.specs.Prelude.{ℕ, Result, Ok, Err}
use Rattle.std.specs.declared.alloc.AllocError.{AllocError}
use Rattle.std.specs.declared.io.ErrorKind.{ErrorKind}
use Rattle.std.specs.declared.io.ErrorKind.TheVariants as kind
use Rattle.floop_run.specs.declared.status.Status.{Status}
use Rattle.floop_run.specs.declared.status.Status.TheVariants as status

abbrev pub code_of : Status → ℕ
code_of status.Done = 0
code_of status.LoopFault = 1
code_of status.Refused = 2
code_of status.ReadFault = 3
code_of status.WriteFault = 4
code_of status.NoMemory = 5

-- the status where the program's words can't be had as texts, for an error of this kind
abbrev pub without_words : ErrorKind → Status
without_words kind.OutOfMemory = status.NoMemory
without_words _ = status.Refused

-- the exit status of a run that ended so
abbrev pub exit_code : Result Status AllocError → ℕ
exit_code (Ok s) = code_of s
exit_code (Err error) = code_of status.NoMemory
