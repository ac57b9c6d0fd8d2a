-- The rows of the acts, held against the lines of a text. `remaining` is what a reader has left, where it tells that.
use Rattle.std.specs.Prelude.{◌≡◌, ◌≢◌, ◌⊎◌, ◌+◌, ℕ, ℤ, List, Option, OnSome}
use Rattle.std.specs.Io.KnownBytes.{Consumes, IsAtEnd}
use Rattle.commands.specs.declared.rows.RepeatRow.{RepeatRow}
use Rattle.histories.specs.Lines.{IsDayAfter, row_line}
use Rattle.histories.specs.LineFaults.{IsOfRow}
use Rattle.histories.specs.Reading.{IsPart, IsPiece, IsNumbered}
use Rattle.histories.specs.declared.line_fault.LineFault.{LineFault}
use Rattle.histories.specs.declared.line_fault.LineFault.TheVariants.{Memory, Input, Foreign, Differs, OutOfTurn}
use Rattle.histories.specs.declared.known.KnownLines.{KnownLines}
use Rattle.histories.specs.declared.known.Place.TheVariants.{Before, Within, Behind}

-- the line is not the one that the act of this number has: it bears the number, or it does not; or memory did not suffice
abbrev pub IsUnlike : ℕ → (made line : List ℕ) → LineFault → Type 0
IsUnlike n made line Memory = Unit {0}
IsUnlike n made line Input = ⊥
IsUnlike n made line Foreign = ⊥
IsUnlike n made line (Differs m) = (m ≡ n) × IsNumbered n line × (line ≢ made)
IsUnlike n made line OutOfTurn = line ≢ made

module _ {R : Type 0} (remaining : R → Option (List ℕ)) where
  -- the line is the first, which was read before, or was read now
  abbrev pub ReadsNext : (before after : KnownLines R) → Type 0
  ReadsNext before after =
      ((before.place ≡ Before) × (after.reader ≡ before.reader) × (after.line.items ≡ before.line.items))
      ⊎ ((before.place ≡ Within) × Consumes (remaining before.reader) (remaining after.reader) after.line.items × IsPiece after.line.items)

  -- it is the line of the act
  pub record Knows (before : KnownLines R) (n : ℕ) (line : List ℕ) (after : KnownLines R) : Type 0 where
    pub is : after.line.items ≡ line
    pub read : ReadsNext before after
    pub place : after.place ≡ Within
    pub known : after.known ≡ before.known + 1
    pub last : after.last ≡ n

  -- the text has no further line
  pub record EndsHere (before after : KnownLines R) : Type 0 where
    pub was : before.place ≡ Within
    pub part : IsPart after.line.items
    pub read : Consumes (remaining before.reader) (remaining after.reader) after.line.items
    pub end : OnSome (remaining before.reader) (IsAtEnd (remaining after.reader))
    pub place : after.place ≡ Behind
    pub known : after.known ≡ before.known
    pub last : after.last ≡ before.last

  -- the act has no line in the text, which begins behind it or ended before it
  pub record Passes (before : KnownLines R) (made : List ℕ) (after : KnownLines R) : Type 0 where
    pub outside : before.place ≢ Within
    pub unlike : before.place ≡ Before → before.line.items ≢ made
    pub place : after.place ≡ before.place
    pub reader : after.reader ≡ before.reader
    pub line : after.line.items ≡ before.line.items
    pub known : after.known ≡ before.known
    pub last : after.last ≡ before.last

  -- what comes of the next line of the text and the line of the act
  abbrev pub Looks : (before : KnownLines R) (n : ℕ) (line : List ℕ) (after : KnownLines R) → Type 0
  Looks before n line after = Knows before n line after ⊎ (EndsHere before after ⊎ Passes before line after)

  -- the row was that of the next act, and the next line of the text was held against its line
  pub record TakesRow (before : KnownLines R) (row : RepeatRow) (after : KnownLines R) : Type 0 where
    pub turn : row.act ≡ before.done + 1
    pub done : after.done ≡ before.done + 1
    pub day : IsDayAfter row.spell before.day after.day
    pub looked : Looks before row.act (row_line after.day row) after

  -- a line that was read is not the one of the next act
  pub record Misses (before : KnownLines R) (n : ℕ) (made : List ℕ) (fault : LineFault) (after : KnownLines R) : Type 0 where
    pub unlike : IsUnlike n made after.line.items fault
    pub read : ReadsNext before after
    -- the first line is passed where it does not bear the number
    pub numbered : fault ≡ OutOfTurn → before.place ≡ Within
    pub known : after.known ≡ before.known

  -- why no further row was taken
  abbrev pub Stopped : (before : KnownLines R) → RepeatRow → (after : KnownLines R) → LineFault → Type 0
  Stopped before row after fault =
      IsOfRow before.done row fault ⊎ ((row.act ≡ before.done + 1) × (day : ℤ) × IsDayAfter row.spell before.day day × Misses before row.act (row_line day row) fault after)

  abbrev pub StopsAt : (before : KnownLines R) → RepeatRow → (after : KnownLines R) → Type 0
  StopsAt before row after = Stopped before row after after.fault
