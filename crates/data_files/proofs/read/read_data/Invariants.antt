use Rattle.std.proofs.Common.{◌≡◌, ◌≤◌, ◌+◌, length, drop, []}
use Rattle.std.specs.Prelude.{IfSome}
use Rattle.edge_io.specs.Counts.{counted_times}
use Rattle.column_input.specs.Table.{contents}
use Rattle.data_files.specs.Tables.{names_seen, files_taken}
use Rattle.data_files.proofs.read.read_data.Given as goal

abbrev pub invariant-loop-before : goal.invariant-loop-before
invariant-loop-before g l = record {
  table : IfSome (g.F.Files.held l.fn.files) (λ held.
      files_taken (length l.names) 0 (contents [] [] 0) (names_seen l.names) held
      ≡ files_taken (length l.names) l.before l.table (names_seen (drop l.before l.names)) held);
  held : g.F.Files.held l.files ≡ g.F.Files.held l.fn.files;
  each : g.F.Files.reads l.files ≡ counted_times l.before (g.F.Files.reads l.fn.files);
  reads : g.F.Files.reads l.files ≤ g.F.Files.reads l.fn.files + l.before;
  faults : g.F.Files.faults l.files ≡ g.F.Files.faults l.fn.files;
}
