use Rattle.wire.proofs.Words.{rules, head_text}
use Rattle.wire.proofs.answer.head.Goals as goal

pub returns-clause-value : goal.returns-clause-value
unfolding head_text
returns-clause-value c = search rules
