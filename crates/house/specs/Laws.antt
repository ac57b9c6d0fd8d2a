-- What is true of every step over a text.
use Rattle.std.specs.Prelude.{◌≡◌, ◌≢◌, ℕ, List, codes, ℤ}
use Rattle.machine.specs.Acts.{Act}
use Rattle.house.specs.Answers.{foreign_books, status_of}
use Rattle.house.specs.House.{Step}

-- a request that is not answered 200 changes nothing
abbrev pub RefusedRequestsChangeNothing : Type 0
RefusedRequestsChangeNothing = (first : ℤ) (old : List Act) (text bytes : List ℕ) (new : List Act) →
    Step first old text bytes new → status_of bytes ≢ codes "HTTP/1.1 200" → new ≡ old

-- no step is answered 503 W91
abbrev pub BooksAreNeverForeign : Type 0
BooksAreNeverForeign = (first : ℤ) (old : List Act) (text bytes : List ℕ) (new : List Act) → Step first old text bytes new → bytes ≢ foreign_books
