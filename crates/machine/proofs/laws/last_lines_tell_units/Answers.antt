use Rattle.machine.proofs.histories.LastLines as last_lines
use Rattle.machine.proofs.laws.last_lines_tell_units.Goals as goal

pub returns : goal.returns
returns c = last_lines.last_line_tells_units
