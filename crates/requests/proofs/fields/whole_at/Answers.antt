use Rattle.std.proofs.Common.{rules}
use Rattle.requests.proofs.fields.whole_at.Goals as goal

pub returns : goal.returns
returns c = search rules
