use Rattle.scan_lines.proofs.Reading.{line_once}
use Rattle.scan_lines.proofs.laws.lines_are_read_in_one_way.Goals as goal

pub returns : goal.returns
returns c = line_once
