-- The acts of the books, passed beside a text of which the first line was read. `left` is what the text had before it, where a
-- reader tells that.
use Rattle.std.specs.Prelude.{◌≡◌, ◌≢◌, ◌+◌, ℕ, ℤ, List, [], ◌∷◌, ◌++◌, length, Option, OnSome}
use Rattle.std.specs.Io.KnownBytes.{Consumes, IsAtEnd}
use Rattle.machine.specs.Acts.{Act, next_number}
use Rattle.machine.specs.Standing.{today}
use Rattle.histories.specs.Newer.{act_line, newer_text}
use Rattle.histories.specs.Reading.{IsPart, IsLine}
use Rattle.histories.specs.Known.{Misses}
use Rattle.histories.specs.declared.line_fault.LineFault.{LineFault}
use Rattle.histories.specs.declared.known.KnownLines.{KnownLines}
use Rattle.histories.specs.declared.known.Place.{Place}
use Rattle.histories.specs.declared.known.Place.TheVariants.{Before, Within, Behind}

module _ {R : Type 0} (remaining : R → Option (List ℕ)) (left : Option (List ℕ)) (begun : ℤ) where
  -- none of these acts has a line in the text so far, the first line of which was read
  pub record BeforeText (now : KnownLines R) (older : List Act) : Type 0 where
    pub whole : IsLine now.line.items
    pub read : Consumes left (remaining now.reader) now.line.items
    pub known : now.known ≡ 0
    pub unlike : (later : List Act) (act : Act) (base : List Act) → older ≡ later ++ act ∷ base → now.line.items ≢ act_line begun act base

  -- the lines that were read are those of the newest of these acts
  pub record WithinText (now : KnownLines R) (older : List Act) : Type 0 where
    pub known : List Act
    pub base : List Act
    pub some : known ≢ []
    pub parts : older ≡ known ++ base
    pub count : now.known ≡ length known
    pub last : now.last ≡ length older
    pub read : Consumes left (remaining now.reader) (newer_text begun known base)

  -- the text was read, and ends behind the lines of some of these acts
  pub record BehindText (now : KnownLines R) (older : List Act) : Type 0 where
    pub later : List Act
    pub known : List Act
    pub base : List Act
    pub parts : older ≡ later ++ known ++ base
    pub none : known ≡ [] → base ≡ []
    pub count : now.known ≡ length known
    pub beyond : now.last + length later ≡ length older
    pub part : List ℕ
    pub is_part : IsPart part
    pub read : Consumes left (remaining now.reader) (newer_text begun known base ++ part)
    pub end : OnSome left (IsAtEnd (remaining now.reader))

  abbrev pub AtPlace : Place → KnownLines R → List Act → Type 0
  AtPlace Before now older = BeforeText now older
  AtPlace Within now older = WithinText now older
  AtPlace Behind now older = BehindText now older

  -- these acts were passed, which began on the day
  pub record HasPassed (now : KnownLines R) (older : List Act) : Type 0 where
    pub done : now.done ≡ length older
    pub day : now.day ≡ today begun older
    pub place : AtPlace now.place now older

  -- some of the acts were passed, the oldest
  pub record HasBroken (acts : List Act) : Type 0 where
    pub last : KnownLines R
    pub later : List Act
    pub older : List Act
    pub parts : acts ≡ later ++ older
    pub passed : HasPassed last older

  -- and the line that was read then is not the one of the next act
  pub record MissesLine (acts : List Act) (fault : LineFault) (after : KnownLines R) : Type 0 where
    pub last : KnownLines R
    pub later : List Act
    pub act : Act
    pub older : List Act
    pub parts : acts ≡ later ++ act ∷ older
    pub passed : HasPassed last older
    pub misses : Misses remaining last (next_number older) (act_line begun act older) fault after

-- how the first line was read: the text has it, or has no line
abbrev pub IsRead : Place → (line : List ℕ) → (left now : Option (List ℕ)) → Type 0
IsRead Before line left now = IsLine line
IsRead Within line left now = ⊥
IsRead Behind line left now = IsPart line × OnSome left (IsAtEnd now)

-- no act was passed yet, and the first line was read, if the text has one
pub record IsStart {R : Type 0} (remaining : R → Option (List ℕ)) (left : Option (List ℕ)) (start : KnownLines R) : Type 0 where
  pub done : start.done ≡ 0
  pub known : start.known ≡ 0
  pub last : start.last ≡ 0
  pub read : Consumes left (remaining start.reader) start.line.items
  pub place : IsRead start.place start.line.items left (remaining start.reader)
