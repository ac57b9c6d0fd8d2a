-- The machine over texts: a step, a run, and the house whose books are those of the acts.
use Rattle.std.specs.Prelude.{◌≡◌, ◌≢◌, ◌⊎◌, ℕ, List, [], ◌∷◌, ◌++◌, zip, Contains, map, codes, Vec, ℤ}
use Rattle.house.specs.Words.{Ghosts, Trees, Act, IsHistory, IsReading, Ask, Show, Query, Read, Need, Bad, Request, Connected, AreBooks, HoldsBooks, AreAsBefore}
use Rattle.sqlite.specs.Held.{state}
use Rattle.sqlite.specs.State.{State}
use Rattle.house.specs.Answers.{answer_of, acts_of, fault_answer, no_memory, status_of}
use Rattle.house.specs.declared.answered.Answered.{Answered}
use Rattle.house.specs.declared.answered.Answered.TheVariants.{Short, Long}
use Rattle.house.specs.declared.house.House.{House}

-- the text is read and answered as the machine does, and the acts are those after it
pub record IsAnswered (first : ℤ) (old : List Act) (text bytes : List ℕ) (new : List Act) : Type 0 where
  pub reading : Read
  pub read : IsReading text reading
  pub answer : bytes ≡ answer_of first old reading
  pub acts : new ≡ acts_of first old reading

-- the answer is 503 W90, and the acts stay
pub record HasNoMemory (old : List Act) (bytes : List ℕ) (new : List Act) : Type 0 where
  pub answer : bytes ≡ no_memory
  pub acts : new ≡ old

-- one step over a text
abbrev pub Step : ℤ → List Act → List ℕ → List ℕ → List Act → Type 0
Step first old text bytes new = IsAnswered first old text bytes new ⊎ HasNoMemory old bytes new

-- steps, one after another
abbrev pub Run : ℤ → List Act → List (List ℕ) → List (List ℕ) → List Act → Type 0
Run first old [] [] new = new ≡ old
Run first old (text ∷ texts) (bytes ∷ answers) new = (mid : List Act) × Step first old text bytes mid × Run first mid texts answers new
Run first old [] (bytes ∷ answers) new = ⊥
Run first old (text ∷ texts) [] new = ⊥

-- whatever the books, a text that is no request is answered by its fault and changes nothing, a request that shows something
-- changes nothing, and another changes something only where it is answered 200
abbrev pub Answers : {S : Type 0} → Ghosts S → Read → List ℕ → Connected S → Connected S → Type 0
Answers g (Need e) bytes was books = (bytes ≡ fault_answer e) × (books ≡ was)
Answers g (Bad e) bytes was books = (bytes ≡ fault_answer e) × (books ≡ was)
Answers g (Request (Show query)) bytes was books = AreAsBefore g was books
Answers g (Request ask) bytes was books = status_of bytes ≢ codes "HTTP/1.1 200" → AreAsBefore g was books

-- the books of a house
abbrev pub books_of : {S : Type 0} → House S → Connected S
books_of house = house.books

-- the bytes of an answer
abbrev pub bytes_of : Answered → List ℕ
bytes_of (Short block) = block
bytes_of (Long bytes) = bytes.items

-- the texts of requests
abbrev pub texts_of : {A : Type 0} → List (Vec ℕ A) → List (List ℕ)
texts_of requests = map (λ t. t.items) requests

-- the books are those after one request more: one of those that were told 503 W90, among the texts so far and their answers
pub record IsOneFurther (first : ℤ) (acts : List Act) (told : List (List ℕ × List ℕ)) (trees : Trees) : Type 0 where
  pub text : List ℕ
  pub unanswered : Contains told (text, no_memory)
  pub bytes : List ℕ
  pub next : List Act
  pub step : Step first acts text bytes next
  pub history : IsHistory first next
  pub books : AreBooks first next trees

-- whatever a stop leaves has all the acts, and at most one request more, on which the disk failed
abbrev pub LeavesBooks : ℤ → List Act → List (List ℕ × List ℕ) → State → Type 0
LeavesBooks first acts told s = (trees : Trees) → s.may_leave trees → AreBooks first acts trees ⊎ IsOneFurther first acts told trees

-- the books are those of the acts after one step
pub record StepsTo {S : Type 0} (g : Ghosts S) (first : ℤ) (old : List Act) (text bytes : List ℕ) (was books : Connected S) : Type 0 where
  pub after : List Act
  pub step : Step first old text bytes after
  pub history : IsHistory first after
  pub holds : HoldsBooks g first after books
  -- what was answered is kept
  pub kept : (told : List (List ℕ × List ℕ)) → LeavesBooks first old told (state g was.conn) → LeavesBooks first after (told ++ (text, bytes) ∷ []) (state g books.conn)

-- the books are those of the acts after a run
pub record RunsTo {S : Type 0} (g : Ghosts S) (first : ℤ) (old : List Act) (texts answers : List (List ℕ)) (was books : Connected S) : Type 0 where
  pub after : List Act
  pub run : Run first old texts answers after
  pub history : IsHistory first after
  pub holds : HoldsBooks g first after books
  -- what was answered is kept, also over a connection that the disk has shut meanwhile
  pub kept : (told : List (List ℕ × List ℕ)) → LeavesBooks first old told (state g was.conn) → LeavesBooks first after (told ++ zip texts answers) (state g books.conn)

-- only an answer of status 200 is not written in place
abbrev pub IsLongIfOk : Answered → Type 0
IsLongIfOk (Short block) = Unit {0}
IsLongIfOk (Long bytes) = status_of bytes.items ≡ codes "HTTP/1.1 200"

-- and it is to a request that shows something
abbrev pub IsAskedInPlace : Ask → Answered → Type 0
IsAskedInPlace ask (Short block) = Unit {0}
IsAskedInPlace ask (Long bytes) = (query : Query) × (ask ≡ Show query) × (status_of bytes.items ≡ codes "HTTP/1.1 200")

abbrev pub IsInPlace : List ℕ → Answered → Type 0
IsInPlace text (Short block) = Unit {0}
IsInPlace text (Long bytes) = (query : Query) × IsReading text (Request (Show query)) × (status_of bytes.items ≡ codes "HTTP/1.1 200")
