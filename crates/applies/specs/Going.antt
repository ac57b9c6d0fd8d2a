-- Books that go on by the lines of a text.
use Rattle.std.specs.Prelude.{◌≡◌, ◌≢◌, ◌⊎◌, ◌+◌, ◌<◌, ℕ, ℤ, List, [], ◌∷◌, ◌++◌, length, Option, Some, Result, Ok, Err, IfSome, OnOk}
use Rattle.applies.specs.Words.{Ghosts, Trees, Refusal, Act, next_number, IsHistory, IsSoundRequest, outcome, act_line, newer_text, IsPart, IsNumbered, IsPiece, cause, IsOpen, Connected, AreBooks, HoldsBooks, LeavesOnly}
use Rattle.sqlite.specs.Held.{state}
use Rattle.histories.specs.Books.{AreInTurn}
use Rattle.histories.specs.declared.reading.ReadFault.{ReadFault}
use Rattle.histories.specs.declared.reading.ReadFault.TheVariants as read
use Rattle.applies.specs.declared.applied.Applied.{Applied}
use Rattle.applies.specs.declared.applied.NotApplied.{NotApplied}
use Rattle.applies.specs.declared.applied.NotApplied.TheVariants.{Differs, Lacks, Line, Refused, Input, Store, Foreign}

-- What is so of the text that was read: of all that a reader had left, where it tells that. Of another it is as much as was read.
abbrev pub OfText : Option (List ℕ) → (List ℕ → Type 0) → Type 0
OfText left Is = (text : List ℕ) × IfSome left (λ all. all ≡ text) × Is text

-- The text has the lines of consecutive acts, the oldest first: of some that the books had, and then of the newer ones, which
-- they had not. Behind them is nothing but a line that is not whole.
pub record GoneOn (begun : ℤ) (acts : List Act) (text : List ℕ) (newer : List Act) : Type 0 where
  pub later : List Act
  pub known : List Act
  pub older : List Act
  pub parts : acts ≡ later ++ known ++ older
  -- the books had no act between those and the newer ones
  pub next : newer ≢ [] → later ≡ []
  -- where the text has no line, all acts of the books are behind it
  pub none : newer ≡ [] → known ≡ [] → older ≡ []
  pub rest : List ℕ
  pub part : IsPart rest
  pub is : text ≡ newer_text begun (newer ++ known) older ++ rest

-- how many acts were done, of how many lines the books had the acts, and how many acts they have behind that of the last line
pub record IsCounted (begun : ℤ) (acts : List Act) (text : List ℕ) (newer : List Act) (gone : GoneOn begun acts text newer) (told : Applied) : Type 0 where
  pub done : told.done ≡ length newer
  pub known : told.known ≡ length gone.known
  pub beyond : told.beyond ≡ length gone.later

module _ (first begun : ℤ) (acts : List Act) (front : List ℕ) (newer : List Act) (gone : GoneOn begun acts front newer) where
  -- An act whose line may come behind these: the next one of the books, or one that goes on where they end. Where no line came,
  -- any of these.
  pub record MayCome (act : Act) (older : List Act) : Type 0 where
    pub history : IsHistory first (act ∷ older)
    pub place : (older ≡ newer ++ acts) ⊎ ((later : List Act) × (acts ≡ later ++ act ∷ older))
    pub turn : (newer ++ gone.known ≡ []) ⊎ (older ≡ newer ++ gone.known ++ gone.older)

  -- the line is that of no act that may come
  abbrev pub IsOfNone : List ℕ → Type 0
  IsOfNone line = (act : Act) (older : List Act) → MayCome act older → line ≢ act_line begun act older

  -- the line bears the number of an act of the books that may come, and is another
  pub record IsOther (n : ℕ) (line : List ℕ) : Type 0 where
    pub later : List Act
    pub act : Act
    pub older : List Act
    pub parts : acts ≡ later ++ act ∷ older
    pub turn : (newer ++ gone.known ≡ []) ⊎ (older ≡ newer ++ gone.known ++ gone.older)
    pub is : n ≡ next_number older
    pub numbered : IsNumbered n line
    pub other : line ≢ act_line begun act older

  -- the line is that of an act that is refused behind the acts of the books
  pub record IsOfRefused (why : Refusal) (line : List ℕ) : Type 0 where
    pub act : Act
    pub sound : IsSoundRequest act
    pub is : line ≡ act_line begun act (newer ++ acts)
    pub refused : cause (outcome first (newer ++ acts) act) ≡ Some why

  -- why the next line is not done
  abbrev pub Misfits : (line : List ℕ) → NotApplied → Type 0
  Misfits line (Differs n) = IsOther n line
  Misfits line (Lacks n) = (n ≡ next_number (newer ++ acts)) × ((m : ℕ) × (n < m) × IsNumbered m line) × IsOfNone line
  Misfits line (Line n) = (n ≡ length (newer ++ gone.known) + 1) × IsOfNone line
  Misfits line (Refused n why) = (n ≡ next_number (newer ++ acts)) × IsOfRefused why line
  Misfits line Input = ⊥
  Misfits line Store = ⊥
  Misfits line Foreign = ⊥

-- memory, the disk or the input did not suffice
abbrev pub IsOfWant : NotApplied → Type 0
IsOfWant Input = Unit {0}
IsOfWant Store = Unit {0}
IsOfWant Foreign = ⊥
IsOfWant (Differs n) = ⊥
IsOfWant (Lacks n) = ⊥
IsOfWant (Line n) = ⊥
IsOfWant (Refused n why) = ⊥

-- the fault tells of no line
abbrev pub IsOfNoLine : NotApplied → Type 0
IsOfNoLine Input = Unit {0}
IsOfNoLine Store = Unit {0}
IsOfNoLine Foreign = Unit {0}
IsOfNoLine (Differs n) = ⊥
IsOfNoLine (Lacks n) = ⊥
IsOfNoLine (Line n) = ⊥
IsOfNoLine (Refused n why) = ⊥

-- how it is told that no line could be read
abbrev pub unread : ReadFault → NotApplied
unread read.Memory = Store
unread read.Input = Input

-- All lines before the next one were done, and it is not, for this fault. Of a line that is longer than any act's the first
-- 8,192 bytes are looked at.
pub record StopsAtLine (first begun : ℤ) (acts : List Act) (text : List ℕ) (newer : List Act) (fault : NotApplied) : Type 0 where
  pub front : List ℕ
  pub behind : List ℕ
  pub parts : text ≡ front ++ behind
  pub gone : GoneOn begun acts front newer
  pub whole : gone.rest ≡ []
  pub why : IsOfNoLine fault ⊎ ((line : List ℕ) × (more : List ℕ) × (behind ≡ line ++ more) × IsPiece line × Misfits first begun acts front newer gone line fault)

-- All whole lines of the text were known or done, and are counted; or the next line is not done, for this fault, and all
-- before it were.
abbrev pub IsDone : (first begun : ℤ) → (acts : List Act) → (text : List ℕ) → (newer : List Act) → Result Applied NotApplied → Type 0
IsDone first begun acts text newer (Ok told) = (gone : GoneOn begun acts text newer) × IsCounted begun acts text newer gone told
IsDone first begun acts text newer (Err fault) = StopsAtLine first begun acts text newer fault

-- the acts are committed for good: the connection is open, and a stop leaves the books of all of them
pub record AreCommitted {S : Type 0} (g : Ghosts S) (first : ℤ) (acts : List Act) (books : Connected S) : Type 0 where
  pub is_open : IsOpen g books
  pub leaves : LeavesOnly first acts (state g books.conn)

-- the connection is open, and the rows of the acts are stored in another order than that of the acts
pub record AreOutOfTurn {S : Type 0} (g : Ghosts S) (books : Connected S) : Type 0 where
  pub is_open : IsOpen g books
  pub order : ¬ AreInTurn (state g books.conn).now.trees

-- it is told that the books are foreign only where that is so
abbrev pub IsOfRows : {S : Type 0} → Ghosts S → Connected S → NotApplied → Type 0
IsOfRows g books fault = fault ≡ Foreign → AreOutOfTurn g books

-- over the books of the acts the newer acts were done, which go on with their history
pub record GoesOn {S : Type 0} (g : Ghosts S) (first begun : ℤ) (acts : List Act) (text : List ℕ) (result : Result Applied NotApplied) (books : Connected S) : Type 0 where
  pub newer : List Act
  pub history : IsHistory first (newer ++ acts)
  pub done : IsDone first begun acts text newer result
  pub holds : HoldsBooks g first (newer ++ acts) books
  -- so what is told as done is never taken back
  pub lasts : OnOk result (newer ≢ [] → AreCommitted g first (newer ++ acts) books)

-- the tables are those of the acts and of newer ones, whose lines the text begins with
pub record Leaves (first begun : ℤ) (acts : List Act) (text : List ℕ) (trees : Trees) : Type 0 where
  pub newer : List Act
  pub history : IsHistory first (newer ++ acts)
  pub front : List ℕ
  pub behind : List ℕ
  pub parts : text ≡ front ++ behind
  pub gone : GoneOn begun acts front newer
  pub books : AreBooks first (newer ++ acts) trees
