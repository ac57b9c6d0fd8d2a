use Rattle.std.proofs.Common.{◌≡◌, ◌++◌, ◌∷◌, [], sym, rules}
use Rattle.requests.proofs.Lines.{next_line, all_found}
use Rattle.requests.proofs.bodies.lines_of.Goals as goal

pub loop-item-preserved : goal.loop-item-preserved
loop-item-preserved c =
    let grown : c.push.new.self.items ≡ c.loop-item.found.items ++ c.in-Some.line ∷ [] = search rules in
    next_line c.args.items.now c.loop-item.item-index c.item-item.result c.loop-item.found.items c.push.new.self.items c.in-Some.line _
    c.loop-item-test.true c.item-item.is (sym c.in-Some.ensures) grown c.loop-item.invariant

pub returns-clause-ok : goal.returns-clause-ok
returns-clause-ok c =
    all_found c.args.items.now c.loop-item.item-index c.loop-item.found.items _ c.loop-item-test.false c.loop-item.invariant
