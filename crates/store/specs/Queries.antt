-- What a query answers, and what it leaves of the books.
use Rattle.std.specs.Prelude.{◌≡◌, List, Result, Ok, Err, ℤ}
use Rattle.store.specs.Words.{Ghosts, Refusal, Act}
use Rattle.store.specs.Books.{HoldsBooks}
use Rattle.store.specs.Connected.{Connected}
use Rattle.store.specs.declared.fault.Fault.{Fault}
use Rattle.store.specs.declared.fault.Fault.TheVariants.{Refused, Store, Foreign}

-- a query on the books of the acts answers what the machine does, a view or a refusal, or `Store`, and leaves the books
abbrev pub IsShown : {S V : Type 0} → Ghosts S → ℤ → List Act → Result V Refusal → Result V Fault → Connected S → Type 0
IsShown g first acts shown (Ok view) new = (shown ≡ Ok view) × HoldsBooks g first acts new
IsShown g first acts shown (Err (Refused why)) new = (shown ≡ Err why) × HoldsBooks g first acts new
IsShown g first acts shown (Err Store) new = HoldsBooks g first acts new
IsShown g first acts shown (Err Foreign) new = ⊥
