use Rattle.store.proofs.Words.{◌≡◌, ◌+◌, ℤ, List, drop, HasCleanDisk, Survives, KeepsCommit, state, IsReady, Act, IsHistory, IsBooksOf, HasKnown, rows_of, AreKeysOf}
use Rattle.store.proofs.FilesInside.{AreUnderWay}
use Rattle.store.proofs.filing.take_rows.Given as goal

abbrev pub invariant-loop-row : goal.invariant-loop-row
invariant-loop-row g l =
    let old = state g.S.Store l.fn.tx.conn.now in
    let now = state g.S.Store l.tx.conn.now in
    (l.tx.conn.ghost_name ≡ l.fn.tx.conn.ghost_name) × Survives old now (λ _. ⊥)
    × (l.filed.tally.accepted + l.filed.tally.repeated ≡ l.row-index)
    × (HasCleanDisk now → AreKeysOf l.rows → (first : ℤ) (acts : List Act) → IsHistory first acts → IsBooksOf first acts old.now → HasKnown l.fn.known old
    → AreUnderWay first acts (rows_of l.rows) (rows_of (drop l.row-index l.rows)) l.fn.day l.filed old now)
    × (HasCleanDisk now → IsReady old.now → KeepsCommit old now × IsReady now.now × (now.in_transaction ≡ old.in_transaction) × (HasKnown l.fn.known old → HasKnown l.known now))
