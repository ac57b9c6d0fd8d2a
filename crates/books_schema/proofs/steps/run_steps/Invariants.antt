use Rattle.books_schema.proofs.Words.{◌≡◌, ◌⊎◌, IsTrue, drop, Schema, Trees, HasCleanDisk, Survives, KeepsCommit, state, IsGrown, AreMade, grown, added_above}
use Rattle.books_schema.proofs.steps.run_steps.Given as goal

-- the steps that are left make of the schema now what all of them make of the first
abbrev pub invariant-loop-step : goal.invariant-loop-step
invariant-loop-step g l =
    let old = state g.S.Store l.fn.tx.conn.now in
    let now = state g.S.Store l.tx.conn.now in
    (l.tx.conn.ghost_name ≡ l.fn.tx.conn.ghost_name) × Survives old now (λ _. ⊥) × (HasCleanDisk now → KeepsCommit old now)
    × (HasCleanDisk now → (base : Trees) (first from : Schema) → AreMade from (added_above l.above l.steps) → IsGrown base first from old
    → (next : Schema) × IsGrown base first next now × AreMade next (added_above l.above (drop l.step-index l.steps))
    × (grown next (added_above l.above (drop l.step-index l.steps)) ≡ grown from (added_above l.above l.steps)))
    × (HasCleanDisk now → (added_above l.above (drop l.step-index l.steps) ≡ added_above l.above l.steps) ⊎ IsTrue old.is_open)
