use Rattle.std.proofs.Common.{rules}
use Rattle.values.proofs.title.Title.as_bytes.Goals as goal

pub returns-clause-text : goal.returns-clause-text
returns-clause-text c = search rules

pub returns-clause-rule : goal.returns-clause-rule
returns-clause-rule c = search rules
