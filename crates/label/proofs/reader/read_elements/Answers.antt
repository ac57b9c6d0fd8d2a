use Rattle.std.proofs.Common.{◌∙◌, arith}
use Rattle.label.proofs.ElementLemmas.{elements_read-turn}
use Rattle.label.proofs.reader.read_elements.Goals as goal

pub loop-rest-preserved : goal.loop-rest-preserved
loop-rest-preserved c =
    c.loop-rest.invariant
    ∙ elements_read-turn c.args.today c.loop-rest.found c.loop-rest.rest.now (record { found = c.take_element.new.self; rest = c.in_ok-rest.rest.now })
    (omega (arith, c.in_ok-rest.ensures.shorter)) c.in_ok-rest.ensures.ok
