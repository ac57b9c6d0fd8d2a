use Rattle.slices.proofs.Words.{◌≡◌, List, take, Ok, state, IsRead, Each, Knowing, Remembers}
use Rattle.slices.proofs.sought.seek_all_known.Given as goal

-- so far the rows of the first keys are read
abbrev pub invariant-loop-key : goal.invariant-loop-key
invariant-loop-key g l =
    (l.tx.conn.ghost_name ≡ l.fn.tx.conn.ghost_name)
    × IsRead {X = List _} (Knowing (λ t. Remembers g.K.Ord.cmp g.K.KeyOf.key (λ by rows. g.T.Sought.are_of by t rows) l.fn.known.rows) (λ t. Remembers g.K.Ord.cmp g.K.KeyOf.key (λ by rows. g.T.Sought.are_of by t rows) l.known.rows)
    (λ t rows. Each (λ j found. g.T.Sought.are_of j t found) (take l.key-index l.keys) rows)) (state g.S.Store l.fn.tx.conn.now) (state g.S.Store l.tx.conn.now) (Ok l.found.items)
