use Rattle.row_rules.proofs.Words.{◌≡◌, ℕ, take, ◌==◌, find, nat_cmp, get}
use Rattle.row_rules.proofs.row_index.first_rows.Given as goal

abbrev pub invariant-loop-row : goal.invariant-loop-row
invariant-loop-row g l = (n : ℕ) → get nat_cmp l.firsts n ≡ find (λ r. n == g.T.Numbered.number r) (take l.row-index l.rows)
