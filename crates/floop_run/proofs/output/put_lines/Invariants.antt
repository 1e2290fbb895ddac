use Rattle.std.proofs.Common.{◌≡◌, ◌≤◌, length, take, drop}
use Rattle.edge_io.specs.Counts.{counted_times}
use Rattle.edge_io.specs.Writing.{Puts}
use Rattle.floop_run.specs.Written.{joined}
use Rattle.floop_run.specs.Outputs.{lines_in}
use Rattle.floop_run.proofs.output.put_lines.Given as goal

abbrev pub invariant-loop-line : goal.invariant-loop-line
invariant-loop-line g l = record {
  written : Puts (g.K.Sink.written l.fn.out) (g.K.Sink.written l.out) (joined (lines_in (take l.line-index l.lines)));
  puts : g.K.Sink.puts l.out ≡ counted_times l.line-index (g.K.Sink.puts l.fn.out);
  room : length (joined (lines_in (drop l.line-index l.lines))) ≤ g.K.Sink.room l.out;
  faults : g.K.Sink.faults l.out ≡ g.K.Sink.faults l.fn.out;
}
