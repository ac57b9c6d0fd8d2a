use Rattle.rows_in_memory.proofs.Words.{List, ap, filter, LeastRow, LotRow, same_items, is_ending}
use Rattle.rows_in_memory.proofs.day_opening.ending_lots.Goals as goal

pub returns : goal.returns
returns c =
    let a = c.args in
    same_items c.lots_ending.result _ _ c.lots_ending.ensures (ap (λ (least : List LeastRow). filter (λ (r : LotRow). is_ending a.old a.new least r) a.lots.now) c.in_ok-asked.ensures)
