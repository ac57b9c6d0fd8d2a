use Rattle.rules.proofs.Words.{◌≡◌, ◌++◌, drop, rows_put, shelf_of}
use Rattle.rules.proofs.shelf.rows_put.Given as goal

abbrev pub invariant-loop-key : goal.invariant-loop-key
invariant-loop-key g l =
    l.put.items ++ rows_put (shelf_of g.K.Same.same g.R.Has.of_row g.R.Held.row_of g.R.HasUnits.units g.R.Held.key_at) (drop l.key-index l.keys) l.after ≡ rows_put (shelf_of g.K.Same.same g.R.Has.of_row g.R.Held.row_of g.R.HasUnits.units g.R.Held.key_at) l.keys l.after
