use Rattle.std.proofs.Common.{rules}
use Rattle.store.proofs.earlier_reply.repeat_reply.Goals as goal

pub returns : goal.returns
returns c = search rules
