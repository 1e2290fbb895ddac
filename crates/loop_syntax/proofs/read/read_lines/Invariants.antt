use Rattle.std.proofs.Common.{◌≡◌, ◌+◌, map}
use Rattle.loop_syntax.proofs.ReadLemmas.{Reading}
use Rattle.loop_syntax.proofs.read.read_lines.Given as goal

abbrev pub invariant-loop-line : goal.invariant-loop-line
invariant-loop-line l = record {
  number : l.number ≡ l.line-index + 1;
  reading : Reading (map (λ x. x.now) l.line-items) l.line-index l.forms.items;
}
