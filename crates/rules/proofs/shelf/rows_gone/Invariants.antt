use Rattle.rules.proofs.Words.{◌≡◌, ◌++◌, drop, rows_gone, shelf_of}
use Rattle.rules.proofs.shelf.rows_gone.Given as goal

abbrev pub invariant-loop-key : goal.invariant-loop-key
invariant-loop-key g l =
    l.gone.items ++ rows_gone (shelf_of g.K.Same.same g.R.Has.of_row g.R.Held.row_of g.R.HasUnits.units g.R.Held.key_at) (drop l.key-index l.keys) l.before l.after ≡ rows_gone (shelf_of g.K.Same.same g.R.Has.of_row g.R.Held.row_of g.R.HasUnits.units g.R.Held.key_at) l.keys l.before l.after
