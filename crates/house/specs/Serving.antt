-- What is read of a reader and written to a writer. `from` and `to` are the bytes that the reader had left, where they are known.
use Rattle.std.specs.Prelude.{◌≡◌, ◌≢◌, ◌⊎◌, ℕ, List, [], false, Option, Result, Ok, Err, ℤ, codes}
use Rattle.std.specs.Io.KnownBytes.{Appends, Consumes, IsAtEnd}
use Rattle.house.specs.Words.{Ghosts, Act, IsHistory, IsReading, Read, Bad, AppendsBeginning, HoldsBooks, AreAsBefore, Connected}
use Rattle.requests.specs.Laws.{needs_more}
use Rattle.requests.specs.declared.fault.WireFault.TheVariants.{Memory}
use Rattle.wire.specs.Logging.{log_line}
use Rattle.house.specs.Answers.{no_memory, status_of}
use Rattle.house.specs.House.{Answers, StepsTo}

-- the text needs no more bytes, or there are none
abbrev pub IsWhole : List ℕ → Option (List ℕ) → Type 0
IsWhole text to = ((reading : Read) × IsReading text reading × (needs_more reading ≡ false)) ⊎ IsAtEnd to

-- a text was read and answered, and the answer was written. Where there was no memory for the text, it may not be whole.
pub record IsServed {S : Type 0} (g : Ghosts S) (first : ℤ) (acts : List Act) (from to : Option (List ℕ)) (was books : Connected S) (IsWritten : List ℕ → Type 0) : Type 0 where
  pub text : List ℕ
  pub bytes : List ℕ
  pub taken : Consumes from to text
  pub whole : IsWhole text to ⊎ (bytes ≡ no_memory)
  pub steps : StepsTo g first acts text bytes was books
  pub written : IsWritten bytes

-- The same over books of whatever acts, or of none: the bytes are the answer of the reading, and of the books of each history
-- they are the machine's.
pub record IsServedAnyhow {S : Type 0} (g : Ghosts S) (from to : Option (List ℕ)) (was books : Connected S) (IsWritten : List ℕ → Type 0) : Type 0 where
  pub text : List ℕ
  pub reading : Read
  pub bytes : List ℕ
  pub taken : Consumes from to text
  pub read : reading ≢ Bad Memory → IsReading text reading
  pub answer : Answers g reading bytes was books
  pub as_before : status_of bytes ≢ codes "HTTP/1.1 200" → AreAsBefore g was books
  pub steps : (first : ℤ) (acts : List Act) → IsHistory first acts → HoldsBooks g first acts was → StepsTo g first acts text bytes was books
  pub written : IsWritten bytes

-- the log got the line of a text and its answer. Where there was no memory for the text it may have got none.
abbrev pub HasLine : (old new : Option (List ℕ)) → (text bytes : List ℕ) → Type 0
HasLine old new text bytes = Appends old new (log_line text bytes) ⊎ ((bytes ≡ no_memory) × Appends old new [])

-- the log got that line, and a beginning of it where it failed
abbrev pub IsLogged : {X E : Type 0} → Result X E → (old new : Option (List ℕ)) → (text bytes : List ℕ) → Type 0
IsLogged (Ok done) old new text bytes = HasLine old new text bytes
IsLogged (Err fault) old new text bytes = AppendsBeginning old new (log_line text bytes)

-- what was sent of an answer: nothing, where what was done could not be kept
abbrev pub sent_of : {X E : Type 0} → (kept : Result X E) → (bytes : List ℕ) → List ℕ
sent_of (Ok done) bytes = bytes
sent_of (Err fault) bytes = []

-- the same as `IsServed`, and the text was logged, with what was sent of its answer
abbrev pub IsServedAndLogged : {S X Y E F : Type 0} → Ghosts S → ℤ → List Act → (from to : Option (List ℕ)) → (was books : Connected S) → (List ℕ → Type 0) → (kept : Result Y F) → (logged : Result X E) → (old new : Option (List ℕ)) → Type 0
IsServedAndLogged g first acts from to was books IsWritten kept logged old new = (s : IsServed g first acts from to was books IsWritten) × IsLogged logged old new s.text (sent_of kept s.bytes)
