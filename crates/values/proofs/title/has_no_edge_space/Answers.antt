use Rattle.std.proofs.Common.{rules}
use Rattle.values.proofs.title.has_no_edge_space.Goals as goal

pub returns-then-text-ne32 : goal.returns-then-text-ne32
returns-then-text-ne32 c = search rules

pub returns-else-text-ne32 : goal.returns-else-text-ne32
returns-else-text-ne32 c = search rules
