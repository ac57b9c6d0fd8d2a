use Rattle.replays.proofs.Words.{◌≡◌, ◌++◌, [], List, vec_len, ℤ, Ok, RepeatRow, IsHistory, HoldsBooks, IsClean, IsOpen, AreRowsReplayed}
use Rattle.replays.proofs.rows.replay_rows.Given as goal

-- the rows are those that are left with those that are done behind them
abbrev pub invariant-loop-row : goal.invariant-loop-row
invariant-loop-row g l =
    (IsClean g.S.Store l.books → IsClean g.S.Store l.fn.books)
    × ((done : List RepeatRow)
    × (l.fn.rows.items ≡ l.rows.items ++ done)
    × (IsClean g.S.Store l.books → (first : ℤ) → IsHistory first [] → HoldsBooks g.S.Store first [] l.fn.books
    → AreRowsReplayed g.S.Store first done (Ok tt) l.books × (IsOpen g.S.Store l.fn.books → IsOpen g.S.Store l.books)))

abbrev pub decreases-loop-row : goal.decreases-loop-row
decreases-loop-row g l = vec_len l.rows
