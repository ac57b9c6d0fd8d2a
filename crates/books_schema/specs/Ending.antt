-- How a transaction ends.
use Rattle.std.specs.Prelude.{◌≡◌, false, Result, Ok, Err}
use Rattle.books_schema.specs.Words.{State, HasCleanDisk, Shows, IsRolledBack, Error}
use Rattle.sqlite.specs.Steps.{FailsToCommit}

-- What was done is committed, or the commit fails; after an error it is rolled back. An error of the commit is made of
-- the database's.
abbrev pub Ends : {T E : Type 0} → (Error → E → Type 0) → Result T E → Result T E → State → State → Type 0
Ends made (Ok x) (Ok y) last new = (y ≡ x) × (HasCleanDisk new → Shows last new last.now last.now false)
Ends made (Ok x) (Err e) last new = (cause : Error) × made cause e × (HasCleanDisk new → FailsToCommit last new cause)
Ends made (Err e) result last new = (result ≡ Err e) × (HasCleanDisk new → IsRolledBack last new)
