-- Calls that change nothing.
use Rattle.whole_tables.proofs.Words.{arith, ◌∙◌, State, HasCleanDisk, Survives, IsUnchanged}

-- two such calls change nothing
pub unchanged_then : (a b c : State) → IsUnchanged a b → IsUnchanged b c → IsUnchanged a c
unchanged_then a b c p q = (
  record { was_open = p.0.was_open; is_open = q.0.is_open; now_is = q.0.now_is ∙ p.0.now_is; committed_is = q.0.committed_is ∙ p.0.committed_is; mode = q.0.mode ∙ p.0.mode },
  record { changes = q.1.changes ∙ p.1.changes; last_rowid = q.1.last_rowid ∙ p.1.last_rowid },
  q.2 ∙ p.2,
)

pub earlier : (a b : State) → Survives a b (λ _. ⊥) → HasCleanDisk b → HasCleanDisk a
earlier a b h clean = omega (arith, clean, h.clean)
