-- What comes of handing the rows of a query to a sink, one at a time.
use Rattle.std.specs.Prelude.{◌≡◌, ◌⊎◌, ℕ, Bool, true, false, List, [], ◌∷◌, ◌++◌, map, Result, Ok, Err, IsTrue}
use Rattle.std.specs.List.{AllByRecursion}
use Rattle.keyed_rows.specs.Words.{Row, State, Shown, Begins, IsUnchanged, IsRolledBack, Store, Foreign}
use Rattle.commands.specs.Sinks.{Reaches, ReachesWithin, StopsWithin}
use Rattle.keyed_rows.specs.declared.each_fault.EachFault.{EachFault}
use Rattle.keyed_rows.specs.declared.each_fault.EachFault.TheVariants.{Fault, Stopped}

-- the first rows that the query shows
abbrev pub AreFirst : List ℕ → Row → State → List Row → Type 0
AreFirst sql params s rows = IsTrue s.is_open × Begins sql params s rows

-- the rows are all that the query shows, and the sink took what each of them reads as
pub record HandsAll {X K : Type 0} (has : Row → Bool) (read : Row → X) (takes : K → X → K → Type 0) (sql : List ℕ) (params : Row) (old new : State) (before after : K) : Type 0 where
  pub rows : List Row
  pub shown : Shown sql params old new rows
  pub typed : AllByRecursion (λ v. has v ≡ true) rows
  pub reached : Reaches takes before (map read rows) after

-- the rows are the first that the query shows, and the sink took what each of them reads as
pub record HandsSome {X K : Type 0} (has : Row → Bool) (read : Row → X) (takes : K → X → K → Type 0) (sql : List ℕ) (params : Row) (old : State) (before after : K) : Type 0 where
  pub rows : List Row
  pub begins : (rows ≡ []) ⊎ AreFirst sql params old rows
  pub typed : AllByRecursion (λ v. has v ≡ true) rows
  pub reached : Reaches takes before (map read rows) after

-- the same, and the table cannot have the next row
pub record HandsUpToForeign {X K : Type 0} (has : Row → Bool) (read : Row → X) (takes : K → X → K → Type 0) (sql : List ℕ) (params : Row) (old : State) (before after : K) : Type 0 where
  pub rows : List Row
  pub next : Row
  pub begins : AreFirst sql params old (rows ++ next ∷ [])
  pub typed : AllByRecursion (λ v. has v ≡ true) rows
  pub foreign : has next ≡ false
  pub reached : Reaches takes before (map read rows) after

-- the same, and the sink stopped at what the next row reads as
pub record HandsUpTo {X K : Type 0} (has : Row → Bool) (read : Row → X) (takes stops : K → X → K → Type 0) (sql : List ℕ) (params : Row) (old : State) (before after : K) : Type 0 where
  pub rows : List Row
  pub next : Row
  pub begins : AreFirst sql params old (rows ++ next ∷ [])
  pub typed : AllByRecursion (λ v. has v ≡ true) (rows ++ next ∷ [])
  pub last : K
  pub reached : Reaches takes before (map read rows) last
  pub stopped : stops last (read next) after

abbrev pub Hands : {X K : Type 0} → (Row → Bool) → (Row → X) → (takes stops : K → X → K → Type 0) → List ℕ → Row → (old new : State) → (before after : K) → Result (Unit {0}) EachFault → Type 0
Hands has read takes stops sql params old new before after (Ok all) = HandsAll has read takes sql params old new before after
Hands has read takes stops sql params old new before after (Err (Fault (Store cause))) = HandsSome has read takes sql params old before after
Hands has read takes stops sql params old new before after (Err (Fault Foreign)) = HandsUpToForeign has read takes sql params old before after
Hands has read takes stops sql params old new before after (Err Stopped) = HandsUpTo has read takes stops sql params old before after

-- the connection shows what it did, but after a fault of the store, which takes it back to the last commit
abbrev pub IsLeft : State → State → Result (Unit {0}) EachFault → Type 0
IsLeft old new (Ok all) = IsUnchanged old new
IsLeft old new (Err (Fault fault)) = IsUnchanged old new ⊎ IsRolledBack old new
IsLeft old new (Err Stopped) = IsUnchanged old new

-- the records were handed to the sink: all of them, or a beginning of them where the store failed, or a beginning up to the one
-- at which the sink stopped
abbrev pub HandsOver : {X K : Type 0} → (takes stops : K → X → K → Type 0) → (before : K) → List X → (after : K) → Result (Unit {0}) EachFault → Type 0
HandsOver takes stops before records after (Ok all) = Reaches takes before records after
HandsOver takes stops before records after (Err (Fault (Store cause))) = ReachesWithin takes before records after
HandsOver takes stops before records after (Err (Fault Foreign)) = ⊥
HandsOver takes stops before records after (Err Stopped) = StopsWithin takes stops before records after
