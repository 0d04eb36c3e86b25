use Rattle.byte_ports.proofs.FirstLines.{line_at, line_whole}
use Rattle.byte_ports.proofs.lines.first_line.Goals as goal

pub returns-in-Some-clause-line : goal.returns-in-Some-clause-line
returns-in-Some-clause-line c = line_at c.args.text.now c.in-Some.at c.in-Some.ensures.0 c.in-Some.ensures.1

pub returns-in-None-clause-line : goal.returns-in-None-clause-line
returns-in-None-clause-line c = line_whole c.args.text.now c.in-None.ensures
