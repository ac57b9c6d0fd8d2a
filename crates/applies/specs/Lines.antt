-- The lines of acts that come behind those of the books.
use Rattle.std.specs.Prelude.{◌≡◌, ◌≢◌, ◌⊎◌, ◌+◌, ◌<◌, ℕ, ℤ, List, [], ◌∷◌, ◌++◌, length, Option, Some, Result, Ok, Err, OnOk}
use Rattle.std.specs.Io.KnownBytes.{Consumes}
use Rattle.applies.specs.Words.{Ghosts, Trees, key_text, spelling, Refusal, Act, next_number, today, day_after_command, IsHistory, IsSoundRequest, outcome, history_line, act_line, newer_text, IsPart, IsLine, IsNumbered, IsPiece, cause, Connected, AreBooks, HoldsBooks}
use Rattle.replays.specs.declared.fault.NotReplayed.{NotReplayed}
use Rattle.replays.specs.declared.fault.NotReplayed.TheVariants as again
use Rattle.applies.specs.Going.{IsOfWant, AreCommitted}
use Rattle.applies.specs.declared.applied.Applied.{Applied}
use Rattle.applies.specs.declared.applied.NotApplied.{NotApplied}
use Rattle.applies.specs.declared.applied.NotApplied.TheVariants.{Differs, Lacks, Line, Refused, Input, Store, Foreign}
use Rattle.applies.specs.declared.next.At.{At}
use Rattle.applies.specs.declared.next.NextAct.{NextAct}

-- the line bears a number above this one
abbrev pub BearsLater : ℕ → List ℕ → Type 0
BearsLater n line = (m : ℕ) × (n < m) × IsNumbered m line

-- the line at this place, which is not that of the act of this number, is told so
abbrev pub IsPlaced : (number place : ℕ) → List ℕ → NotApplied → Type 0
IsPlaced number place line (Lacks n) = (n ≡ number) × BearsLater n line
IsPlaced number place line (Line n) = n ≡ place
IsPlaced number place line (Differs n) = ⊥
IsPlaced number place line (Refused n why) = ⊥
IsPlaced number place line Input = ⊥
IsPlaced number place line Store = ⊥
IsPlaced number place line Foreign = ⊥

-- the line that an act has as the next
abbrev pub next_line : At → Act → List ℕ
next_line at act = history_line (at.done + 1) (day_after_command act.command at.day) (key_text act.key) (spelling act.command)

abbrev pub act_of : NextAct → Act
act_of next = record { key = next.key; command = next.command }

-- the line is that of this act as the next
pub record IsNext (at : At) (line : List ℕ) (next : NextAct) : Type 0 where
  pub sound : IsSoundRequest (act_of next)
  pub number : next.number ≡ at.done + 1
  pub place : next.line ≡ at.lines + 1
  pub day : next.day ≡ day_after_command next.command at.day
  pub is : line ≡ next_line at (act_of next)
  -- and of no other
  pub one : (act : Act) → IsSoundRequest act → line ≡ next_line at act → act ≡ act_of next

-- the line is that of no act
abbrev pub IsNoNext : At → List ℕ → Type 0
IsNoNext at line = (act : Act) → IsSoundRequest act → line ≢ next_line at act

-- what is read of the next line
abbrev pub IsNextRead : At → List ℕ → Result NextAct NotApplied → Type 0
IsNextRead at line (Ok next) = IsNext at line next
IsNextRead at line (Err fault) = IsOfWant fault ⊎ (IsPlaced (at.done + 1) (at.lines + 1) line fault × IsNoNext at line)

-- why an act is not done again, as the line at this place tells it
abbrev pub IsNotDone : NotReplayed → (place : ℕ) → NotApplied → Type 0
IsNotDone (again.Unspelled n) place fault = fault ≡ Line place
IsNotDone (again.Refused n why) place fault = fault ≡ Refused n why
IsNotDone again.Store place fault = fault ≡ Store
IsNotDone again.Foreign place fault = fault ≡ Foreign

-- the books have these acts
pub record IsAt (begun : ℤ) (acts : List Act) (at : At) : Type 0 where
  pub done : at.done ≡ length acts
  pub day : at.day ≡ today begun acts

-- the books are those of the acts, and a whole line was read of what the text had left
pub record Stands {S : Type 0} (g : Ghosts S) (first begun : ℤ) (acts : List Act) (left now : Option (List ℕ)) (at : At) (line : List ℕ) (books : Connected S) : Type 0 where
  pub history : IsHistory first acts
  pub holds : HoldsBooks g first acts books
  pub stands : IsAt begun acts at
  pub whole : IsLine line
  pub read : Consumes left now line

-- the line is that of no act that goes on with these
abbrev pub GoesOnByNone : (first begun : ℤ) → List Act → List ℕ → Type 0
GoesOnByNone first begun acts line = (act : Act) → IsHistory first (act ∷ acts) → line ≢ act_line begun act acts

-- it is the line of an act that is refused there
pub record IsOfRefusedThere (first begun : ℤ) (acts : List Act) (why : Refusal) (line : List ℕ) : Type 0 where
  pub act : Act
  pub sound : IsSoundRequest act
  pub is : line ≡ act_line begun act acts
  pub refused : cause (outcome first acts act) ≡ Some why

-- why the line behind so many lines and these acts is not done
abbrev pub MisfitsThere : (first begun : ℤ) → (acts : List Act) → (lines : ℕ) → (line : List ℕ) → NotApplied → Type 0
MisfitsThere first begun acts lines line (Lacks n) = (n ≡ next_number acts) × BearsLater n line × GoesOnByNone first begun acts line
MisfitsThere first begun acts lines line (Line n) = (n ≡ lines + 1) × GoesOnByNone first begun acts line
MisfitsThere first begun acts lines line (Refused n why) = (n ≡ next_number acts) × IsOfRefusedThere first begun acts why line
MisfitsThere first begun acts lines line (Differs n) = ⊥
MisfitsThere first begun acts lines line Input = ⊥
MisfitsThere first begun acts lines line Store = ⊥
MisfitsThere first begun acts lines line Foreign = ⊥

-- the line's act was done
pub record IsLineAdded {S : Type 0} (g : Ghosts S) (first begun : ℤ) (acts : List Act) (line : List ℕ) (before after : At) (books : Connected S) : Type 0 where
  pub act : Act
  pub is : line ≡ act_line begun act acts
  pub history : IsHistory first (act ∷ acts)
  pub at : IsAt begun (act ∷ acts) after
  pub lines : after.lines ≡ before.lines + 1
  pub holds : HoldsBooks g first (act ∷ acts) books
  pub lasts : AreCommitted g first (act ∷ acts) books

-- what comes of the line
abbrev pub IsLineDone : {S : Type 0} → Ghosts S → (first begun : ℤ) → (acts : List Act) → (line : List ℕ) → (before after : At) → Result (Unit {0}) NotApplied → Connected S → Type 0
IsLineDone g first begun acts line before after (Ok done) books = IsLineAdded g first begun acts line before after books
IsLineDone g first begun acts line before after (Err fault) books =
    HoldsBooks g first acts books × (IsOfWant fault ⊎ MisfitsThere first begun acts before.lines line fault)

-- a stop leaves the books of the acts, or of that of the line too
abbrev pub LeavesLine : (first begun : ℤ) → (acts : List Act) → (line : List ℕ) → Trees → Type 0
LeavesLine first begun acts line trees =
    AreBooks first acts trees ⊎ ((act : Act) × (line ≡ act_line begun act acts) × IsHistory first (act ∷ acts) × AreBooks first (act ∷ acts) trees)

-- the line behind those of the newer acts is not done
pub record EndsAtLine (first begun : ℤ) (acts newer : List Act) (lines : ℕ) (behind : List ℕ) (fault : NotApplied) : Type 0 where
  pub line : List ℕ
  pub more : List ℕ
  pub parts : behind ≡ line ++ more
  pub piece : IsPiece line
  pub misfits : MisfitsThere first begun (newer ++ acts) (lines + length newer) line fault

-- how far the lines of a text go behind the acts, of which the first was read: to its last whole line, or to one that is not done
abbrev pub IsTextEnded : (first begun : ℤ) → (acts newer : List Act) → (head : List ℕ) → (lines : ℕ) → (behind : List ℕ) → Result ℕ NotApplied → Type 0
IsTextEnded first begun acts newer head lines behind (Ok all) = IsPart behind × (newer ≢ []) × (all ≡ lines + length newer)
IsTextEnded first begun acts newer head lines behind (Err fault) =
    IsOfWant fault ⊎ ((end : EndsAtLine first begun acts newer lines behind fault) × (newer ≡ [] → end.line ≡ head))

-- the text, the first line of which was read, has the lines of newer acts, and they were done
pub record AreLinesDone {S : Type 0} (g : Ghosts S) (first begun : ℤ) (acts : List Act) (head text : List ℕ) (lines : ℕ) (result : Result ℕ NotApplied) (books : Connected S) : Type 0 where
  pub newer : List Act
  pub history : IsHistory first (newer ++ acts)
  pub behind : List ℕ
  pub is : text ≡ newer_text begun newer acts ++ behind
  pub ended : IsTextEnded first begun acts newer head lines behind result
  pub holds : HoldsBooks g first (newer ++ acts) books
  pub lasts : OnOk result (AreCommitted g first (newer ++ acts) books)

-- how a text ends behind so many known lines: it has the lines of the newer acts, or one of its lines is not done
abbrev pub IsBehindEnded : (first begun : ℤ) → (acts newer : List Act) → (lines : ℕ) → (behind : List ℕ) → Result Applied NotApplied → Type 0
IsBehindEnded first begun acts newer lines behind (Ok told) = IsPart behind × (told ≡ record { done = length newer; known = lines; beyond = 0 })
IsBehindEnded first begun acts newer lines behind (Err fault) = IsOfWant fault ⊎ EndsAtLine first begun acts newer lines behind fault

-- the text, which may have no line, has the lines of newer acts, and they were done
pub record AreBehindDone {S : Type 0} (g : Ghosts S) (first begun : ℤ) (acts : List Act) (text : List ℕ) (lines : ℕ) (result : Result Applied NotApplied) (books : Connected S) : Type 0 where
  pub newer : List Act
  pub history : IsHistory first (newer ++ acts)
  pub behind : List ℕ
  pub is : text ≡ newer_text begun newer acts ++ behind
  pub ended : IsBehindEnded first begun acts newer lines behind result
  pub holds : HoldsBooks g first (newer ++ acts) books
  pub lasts : OnOk result (newer ≢ [] → AreCommitted g first (newer ++ acts) books)

-- a stop leaves the books of the acts and of those of the first lines
pub record LeavesLines (first begun : ℤ) (acts : List Act) (text : List ℕ) (trees : Trees) : Type 0 where
  pub newer : List Act
  pub history : IsHistory first (newer ++ acts)
  pub behind : List ℕ
  pub is : text ≡ newer_text begun newer acts ++ behind
  pub books : AreBooks first (newer ++ acts) trees
