-- What one read of the system gives, and which of the system's errors is which refusal.
-- Source: this project, over the kinds of error of std's `io::Error`.
use Rattle.std.specs.Prelude.{ℕ, Result, Ok, Err, ◌==◌, if◌then◌else◌}
use Rattle.std.specs.IoError.{error_kind}
use Rattle.std.specs.declared.io.Error.{Error}
use Rattle.std.specs.declared.io.ErrorKind.{ErrorKind}
use Rattle.std.specs.declared.io.ErrorKind.TheVariants as kind
use Rattle.edge_io.specs.declared.files.ReadStop.{ReadStop}
use Rattle.edge_io.specs.declared.files.ReadStop.TheVariants as stop
use Rattle.edge_io.specs.declared.host.ChunkRead.{ChunkRead}
use Rattle.edge_io.specs.declared.host.ChunkRead.TheVariants as chunk

-- what an error of the system says of a read: only what isn't found is not held
abbrev pub stop_of : ErrorKind → ReadStop
stop_of kind.NotFound = stop.NotHeld
stop_of kind.OutOfMemory = stop.NoMemory
stop_of _ = stop.Failed

-- a read that was interrupted is made again; each other error stops
abbrev pub chunk_of_error : ErrorKind → ChunkRead
chunk_of_error kind.Interrupted = chunk.Again
chunk_of_error other = chunk.Stop (stop_of other)

-- what one read of the system gives: no byte is the end
abbrev pub chunk_read : Result ℕ Error → ChunkRead
chunk_read (Ok count) = if count == 0 then chunk.End else chunk.Bytes count
chunk_read (Err error) = chunk_of_error (error_kind error)
