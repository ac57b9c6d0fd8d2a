use Rattle.changes.proofs.Words.{◌≡◌, drop, list_all}
use Rattle.changes.proofs.adding.all_fit.Given as goal

-- all rows do, if those that are left do
abbrev pub invariant-loop-row : goal.invariant-loop-row
invariant-loop-row g l = list_all g.T.Table.fits l.rows ≡ list_all g.T.Table.fits (drop l.row-index l.rows)
