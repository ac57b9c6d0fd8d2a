-- What taking in lines of a history does to the books, and what is told of it.
use Rattle.std.specs.Prelude.{◌≡◌, ◌⊎◌, ◌++◌, ℕ, ℤ, List, codes, decimal, Option, IfSome, IfErr, Result, Ok, Err}
use Rattle.std.specs.Io.KnownBytes.{Appends}
use Rattle.line_work.specs.Words.{StoreGhosts as Ghosts, Trees, Held, state, Act, IsHistory, Connected, AreBooks, KeepsBooks, HoldsBooks, LeavesOnly, MayLeave, Fault, Apply, Io, Store, Foreign}
use Rattle.applies.specs.Going.{OfText, IsOfRows}
use Rattle.applies.specs.Applying.{IsApplied, LeavesOneOf}
use Rattle.applies.specs.Taken.{IsTaken}
use Rattle.applies.specs.declared.applied.Applied.{Applied}
use Rattle.applies.specs.declared.applied.NotApplied.{NotApplied}
use Rattle.applies.specs.declared.applied.NotApplied.TheVariants as misfit
use Rattle.command_line.specs.declared.apply_fault.ApplyFault.TheVariants as apply

-- what is printed
abbrev pub applied_line : Applied → List ℕ
applied_line told = codes "applied " ++ decimal told.done ++ codes " known " ++ decimal told.known ++ codes " beyond " ++ decimal told.beyond ++ codes "\n"

-- the fault of lines that were not all taken in, as the line of the program tells it
abbrev pub fault_of : NotApplied → Fault
fault_of (misfit.Differs act) = Apply (apply.Differs act)
fault_of (misfit.Lacks act) = Apply (apply.Lacks act)
fault_of (misfit.Line line) = Apply (apply.Line line)
fault_of (misfit.Refused act why) = Apply (apply.Act act why)
fault_of misfit.Input = Io
fault_of misfit.Store = Store
fault_of misfit.Foreign = Foreign

-- how the lines went, as the line of the program tells it
abbrev pub told_of : Result Applied NotApplied → Result Applied Fault
told_of (Ok told) = Ok told
told_of (Err why) = Err (fault_of why)

-- it was printed, or the output could not be written; a fault is told, and nothing was printed
abbrev pub IsEndTold : Result Applied NotApplied → (old new : Option (List ℕ)) → Result Unit Fault → Type 0
IsEndTold (Ok told) old new (Ok done) = Appends old new (applied_line told)
IsEndTold (Ok told) old new (Err fault) = fault ≡ Io
IsEndTold (Err why) old new end = (end ≡ Err (fault_of why)) × (new ≡ old)

module _ {S : Type 0} (g : Ghosts S) (first : ℤ) (acts : List Act) where
  -- The lines of a text, which has these bytes where they are known, went so over the books of the acts. Lines of a history that
  -- goes on with those acts were all taken. The books are told to be foreign only where the rows of the acts are out of turn. A stop
  -- leaves the books of the acts, or of those and the first new ones.
  pub record Went (from : Option (List ℕ)) (end : Result Applied NotApplied) (books : Connected S) : Type 0 where
    pub applied : OfText from (λ text. IsApplied g first acts text end books)
    pub every : IfSome from (λ text. IsTaken g first acts text end books)
    pub foreign : IfErr end (IsOfRows g books)
    pub leaves : (trees : Trees) → MayLeave g books trees → AreBooks first acts trees ⊎ OfText from (λ text. LeavesOneOf first acts text trees)

  -- no line was read, and the books are those of the acts
  pub record IsUnread (books : Connected S) : Type 0 where
    pub holds : HoldsBooks g first acts books
    pub leaves : LeavesOnly first acts (state g books.conn)

  -- the lines were taken in, as far as they fit; or memory did not suffice to read them
  abbrev pub IsTakenIn : Option (List ℕ) → Result Applied Fault → Connected S → Type 0
  IsTakenIn from result books =
      ((end : Result Applied NotApplied) × Went from end books × (result ≡ told_of end)) ⊎ ((result ≡ Err Store) × IsUnread books)

  -- nothing was read, done or printed, for this fault
  abbrev pub IsNotTried : Fault → Result Unit Fault → Connected S → (old new : Option (List ℕ)) → Type 0
  IsNotTried fault end books old new = (end ≡ Err fault) × (new ≡ old) × IsUnread books

  -- the same, and what was printed and told
  abbrev pub IsTextApplied : Option (List ℕ) → Result Unit Fault → Connected S → (old new : Option (List ℕ)) → Type 0
  IsTextApplied from end books old new =
      ((went : Result Applied NotApplied) × Went from went books × IsEndTold went old new end) ⊎ IsNotTried Store end books old new

  -- of a file with these bytes, where they are known; or it could not be opened
  abbrev pub IsFileApplied : Option (List ℕ) → Result Unit Fault → Connected S → (old new : Option (List ℕ)) → Type 0
  IsFileApplied from end books old new = IsTextApplied from end books old new ⊎ IsNotTried Io end books old new

  -- the same of books that were opened and closed again, whose connection is left
  abbrev pub LeavesApplied : Option (List ℕ) → (old new : Option (List ℕ)) → Result Unit Fault → Held S → Type 0
  LeavesApplied from old new end conn = (books : Connected S) × (conn ≡ books.conn) × IsFileApplied from end books old new

  -- the connection keeps the books of the acts and of newer ones that go on with them, and so does what a stop leaves
  pub record KeepsMore (conn : Held S) : Type 0 where
    pub newer : List Act
    pub history : IsHistory first (newer ++ acts)
    pub keeps : KeepsBooks first (newer ++ acts) (state g conn)
    pub leaves : (trees : Trees) → (state g conn).may_leave trees → (some : List Act) × IsHistory first (some ++ acts) × AreBooks first (some ++ acts) trees
