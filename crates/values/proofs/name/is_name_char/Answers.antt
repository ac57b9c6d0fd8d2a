use Rattle.std.proofs.Common.{rules}
use Rattle.values.proofs.name.is_name_char.Goals as goal

pub returns-then-c-le57 : goal.returns-then-c-le57
returns-then-c-le57 c = search rules

pub returns-else-c-le57 : goal.returns-else-c-le57
returns-else-c-le57 c = search rules
