use Rattle.row_rules.proofs.Words.{reverse}
use Rattle.row_rules.proofs.KeyOrder.{IsKeyed}
use Rattle.row_rules.proofs.row_index.places_by_text.Given as goal

abbrev pub invariant-loop-row : goal.invariant-loop-row
invariant-loop-row g l = IsKeyed (λ r. reverse (g.K.HasText.text (g.T.Has.of_row r))) l.rows l.row-index l.places.items
