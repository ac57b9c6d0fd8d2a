-- A call within a transaction.
use Rattle.std.specs.Prelude.{IsTrue}
use Rattle.sqlite.specs.State.{State, Survives}

-- it does this, and a stop in it leaves what was committed before
pub record IsInside (Does : State → State → Type 0) (old new : State) : Type 0 where
  pub survives : Survives old new (λ _. ⊥)
  pub does : Does old new

-- it does this over an open connection
abbrev pub IsInsideOpen : (State → State → Type 0) → State → State → Type 0
IsInsideOpen Does = IsInside (λ old new. IsTrue old.is_open → Does old new)
