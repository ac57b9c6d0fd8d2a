use Rattle.audits.proofs.Words.{◌≡◌, drop, find, CardRow, same_card, card_key}
use Rattle.audits.proofs.first_day.card_day.Given as goal

abbrev pub invariant-loop-row : goal.invariant-loop-row
invariant-loop-row l = find (λ (c : CardRow). same_card (l.lot, l.act) (card_key c)) (drop l.row-index l.rows) ≡ find (λ (c : CardRow). same_card (l.lot, l.act) (card_key c)) l.rows
