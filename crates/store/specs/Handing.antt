-- What comes of handing records of the books to a sink, one at a time.
use Rattle.std.specs.Prelude.{List, Result, Ok, Err, ℤ}
use Rattle.store.specs.Words.{Ghosts, State, Act, IsHistory}
use Rattle.sqlite_trees.specs.Tree.{Trees}
use Rattle.commands.specs.Sinks.{Reaches, ReachesWithin, StopsWithin}
use Rattle.store.specs.Books.{KeepsBooks, HoldsBooks}
use Rattle.store.specs.Connected.{Connected}
use Rattle.store.specs.declared.fault.Fault.TheVariants.{Refused, Store, Foreign}
use Rattle.store.specs.declared.each_fault.EachFault.{EachFault}
use Rattle.store.specs.declared.each_fault.EachFault.TheVariants.{Fault, Stopped}

-- all of them, in order; or a beginning of them where memory or the disk did not suffice; or a beginning up to the one at which
-- the sink stopped
abbrev pub HandsRecords : {X K : Type 0} → (takes stops : K → X → K → Type 0) → List X → (before after : K) → Result (Unit {0}) EachFault → Type 0
HandsRecords takes stops records before after (Ok all) = Reaches takes before records after
HandsRecords takes stops records before after (Err (Fault (Refused why))) = ⊥
HandsRecords takes stops records before after (Err (Fault Store)) = ReachesWithin takes before records after
HandsRecords takes stops records before after (Err (Fault Foreign)) = ⊥
HandsRecords takes stops records before after (Err Stopped) = StopsWithin takes stops before records after

-- and the connection keeps the books
abbrev pub IsHandedOn : {X K : Type 0} → ℤ → List Act → (takes stops : K → X → K → Type 0) → List X → (before after : K) → Result (Unit {0}) EachFault → State → Type 0
IsHandedOn first acts takes stops records before after result new = HandsRecords takes stops records before after result × KeepsBooks first acts new

-- the same of the books, which know their business day
abbrev pub IsHanded : {S X K : Type 0} → Ghosts S → ℤ → List Act → (takes stops : K → X → K → Type 0) → List X → (before after : K) → Result (Unit {0}) EachFault → Connected S → Type 0
IsHanded g first acts takes stops records before after result new = HandsRecords takes stops records before after result × HoldsBooks g first acts new

-- what a call commits that commits nothing on the books of a history: outside a transaction a query is told apart from a write by
-- the schema
abbrev pub NoBooks : State → Trees → Type 0
NoBooks old trees = (first : ℤ) (acts : List Act) → IsHistory first acts → ¬ KeepsBooks first acts old
