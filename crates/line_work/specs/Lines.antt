-- What a line does that has a disk for the acts, or none.
use Rattle.std.specs.Prelude.{◌≡◌, ℕ, ℤ, List, Bool, Option, Some, None, Result, IfErr}
use Rattle.line_work.specs.Words.{Ghosts, StoreGhosts, Held, state, Act, IsHistory, HoldsBooks, LeavesOnly, Connected, AreFoundRows, LosesNoLine, Fault, Io, told_port, KeepsFile, IsImported}
use Rattle.texts.specs.Writing.{Writes}
use Rattle.line_work.specs.Serving.{IsServeEnd}
use Rattle.line_work.specs.Importing.{IsImportEnd, KeepsMore}

-- what is done with the disk: it is there after, and was used so; where there was none there is none
abbrev pub IsDoneWith : {D : Type 0} → (Done : D → D → Type 0) → (before after : Option D) → Type 0
IsDoneWith Done None after = after ≡ None
IsDoneWith {D} Done (Some disk) after = (new : D) × (after ≡ Some new) × Done disk new

-- no whole line of the disk for the acts is lost, if there is one, whatever the books are
abbrev pub LosesNoLineIf : {D : Type 0} → Ghosts D → (before after : Option D) → Type 0
LosesNoLineIf g before after = IsDoneWith (LosesNoLine g) before after

-- over the rows of a history, or over the books that were opened with them
abbrev pub OverRows : {S : Type 0} → StoreGhosts S → Held S → (ℤ → List Act → Type 0) → Type 0
OverRows s conn Is = (first : ℤ) (acts : List Act) → IsHistory first acts → AreFoundRows first acts (state s conn).committed.trees → Is first acts

abbrev pub OverBooks : {S : Type 0} → StoreGhosts S → Connected S → (ℤ → List Act → Type 0) → Type 0
OverBooks s books Is = (first : ℤ) (acts : List Act) → IsHistory first acts → HoldsBooks s first acts books → LeavesOnly first acts (state s books.conn) → Is first acts

-- `Over` says of which acts it is so: see `OverRows`
module _ {S D : Type 0} (s : StoreGhosts S) (g : Ghosts D) (Over : (ℤ → List Act → Type 0) → Type 0) where
  abbrev pub IsServedWith : (max : ℕ) → (left : Held S) → (asked : Bool) → (end : Result Unit Fault) → (out_old out_new old new : Option (List ℕ)) → (before after : Option D) → Type 0
  IsServedWith max left asked end out_old out_new old new before after =
      IsDoneWith (λ disk now. Over (λ first acts. IsServeEnd s g first acts max disk left asked end out_old out_new old new now)) before after

  abbrev pub IsImportedWith : (from : Option (List ℕ)) → (left : Held S) → (end : Result Unit Fault) → (old new : Option (List ℕ)) → (before after : Option D) → Type 0
  IsImportedWith from left end old new before after =
      IsDoneWith (λ disk now. Over (λ first acts. IsImportEnd s g first acts disk from left end old new now)) before after

-- The port was told, or a beginning of its line, or nothing. Without a disk for the acts any fault is that of the output or of the log.
abbrev pub IsPortToldIf : {D : Type 0} → Option D → ℕ → (old new : Option (List ℕ)) → Result Unit Fault → Type 0
IsPortToldIf None port old new end = Writes end old new (told_port port) × IfErr end (λ fault. fault ≡ Io)
IsPortToldIf (Some disk) port old new end = Writes end old new (told_port port)

-- What an import leaves of the books. With a disk for the acts the connection may be shut once they were read for it.
abbrev pub KeepsImported : {S D : Type 0} → StoreGhosts S → Option D → ℤ → List Act → Held S → Type 0
KeepsImported s None first acts conn = KeepsFile s first acts conn
KeepsImported s (Some disk) first acts conn = KeepsMore s first acts conn

-- what an import told, where no acts are kept; `IsImportedWith` has the other case
abbrev pub IsImportToldIf : {S D : Type 0} → StoreGhosts S → Option D → ℤ → List Act → (from : Option (List ℕ)) → Result Unit Fault → Held S → (old new : Option (List ℕ)) → Type 0
IsImportToldIf {S} s None first acts from end conn old new =
    (books : Connected S) × (conn ≡ books.conn) × IsImported s first acts from (λ _. Unit {0}) (λ _. Unit {0}) ⊥ end books old new
IsImportToldIf s (Some disk) first acts from end conn old new = Unit {0}
