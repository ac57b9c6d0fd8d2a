use Rattle.rules.proofs.holding.change_hold.Goals as goal

pub returns : goal.returns
returns c =
    rw (c.from_vec.ensures, c.in_ok-lots.ensures, c.lot_seen.ensures, c.from_vec-2.ensures, c.new.ensures.items, c.in_ok-reserved.ensures)
    at c.returning_change.ensures
