-- The lines of the acts that the books have.
use Rattle.std.specs.Prelude.{◌≡◌, ◌⊎◌, ◌+◌, ◌-◌, ℕ, ℤ, List, Option, Result, Ok, Err}
use Rattle.machine.specs.Acts.{Act}
use Rattle.histories.specs.declared.line_fault.LineFault.{LineFault}
use Rattle.histories.specs.declared.line_fault.LineFault.TheVariants as line
use Rattle.histories.specs.declared.known.KnownLines.{KnownLines}
use Rattle.histories.specs.Walked.{HasPassed, HasBroken, MissesLine}
use Rattle.applies.specs.Going.{IsOfNoLine}
use Rattle.applies.specs.declared.applied.Applied.{Applied}
use Rattle.applies.specs.declared.applied.NotApplied.{NotApplied}
use Rattle.applies.specs.declared.applied.NotApplied.TheVariants.{Differs, Line, Input, Store, Foreign}

-- how a fault is told behind so many lines
abbrev pub IsToldAs : LineFault → (known : ℕ) → NotApplied → Type 0
IsToldAs line.Memory known fault = fault ≡ Store
IsToldAs line.Input known fault = fault ≡ Input
IsToldAs line.Foreign known fault = fault ≡ Foreign
IsToldAs (line.Differs n) known fault = fault ≡ Differs n
IsToldAs line.OutOfTurn known fault = (fault ≡ Store) ⊎ (fault ≡ Line (known + 1))

-- all acts were passed; or some, and then a line came that is not the one of the next act, or a fault that tells of no line
abbrev pub ArePassed : {R : Type 0} → (R → Option (List ℕ)) → (left : Option (List ℕ)) → (begun : ℤ) → List Act → Result (Unit {0}) NotApplied → (after : KnownLines R) → Type 0
ArePassed remaining left begun acts (Ok all) after = HasPassed remaining left begun after acts
ArePassed remaining left begun acts (Err fault) after =
    (IsOfNoLine fault × HasBroken remaining left begun acts)
    ⊎ ((told : LineFault) × IsToldAs told after.known fault × MissesLine remaining left begun acts told after)

-- what is told where so many lines were known and all came to this number
abbrev pub counted : (known : ℕ) → Result ℕ NotApplied → Result Applied NotApplied
counted known (Ok lines) = Ok (record { done = lines - known; known = known; beyond = 0 })
counted known (Err fault) = Err fault
