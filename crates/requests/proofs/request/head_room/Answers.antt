use Rattle.requests.proofs.Readings.{all_room}
use Rattle.requests.proofs.request.head_room.Goals as goal

pub returns-then-text-le-LONGEST_HEAD-clause-value : goal.returns-then-text-le-LONGEST_HEAD-clause-value
returns-then-text-le-LONGEST_HEAD-clause-value c = all_room c.args.text.now c.if-text-le-LONGEST_HEAD.true
