use Rattle.books_schema.proofs.Words.{◌≡◌, ◌⊎◌, IsTrue, drop, Schema, Trees, HasCleanDisk, Survives, KeepsCommit, state, IsGrown, AreMade, grown}
use Rattle.books_schema.proofs.steps.add_tables.Given as goal

-- the tables that are left make of the schema now what all of them make of the first
abbrev pub invariant-loop-table : goal.invariant-loop-table
invariant-loop-table g l =
    let old = state g.S.Store l.fn.tx.conn.now in
    let now = state g.S.Store l.tx.conn.now in
    (l.tx.conn.ghost_name ≡ l.fn.tx.conn.ghost_name) × Survives old now (λ _. ⊥) × (HasCleanDisk now → KeepsCommit old now)
    × (HasCleanDisk now → (base : Trees) (first from : Schema) → AreMade from l.tables → IsGrown base first from old
    → (next : Schema) × IsGrown base first next now × AreMade next (drop l.table-index l.tables) × (grown next (drop l.table-index l.tables) ≡ grown from l.tables))
    × (HasCleanDisk now → (drop l.table-index l.tables ≡ l.tables) ⊎ IsTrue old.is_open)
