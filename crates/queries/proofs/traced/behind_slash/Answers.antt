use Rattle.queries.proofs.Slashes.{behind_later}
use Rattle.queries.proofs.traced.behind_slash.Goals as goal

pub loop-i-preserved : goal.loop-i-preserved
loop-i-preserved c = behind_later c.args.text.now c.loop-i.i c.loop-i-test.true c.if-text-i-eq47.false c.loop-i.invariant
