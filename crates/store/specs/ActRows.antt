-- What comes of handing the rows of `repeats` to a sink.
use Rattle.std.specs.Prelude.{◌≡◌, ◌≢◌, ℕ, min, ℤ, pos, List, Some, Result, Err, OnOk, find, IsTrue}
use Rattle.std.specs.List.{AllByRecursion}
use Rattle.store.specs.Words.{State, same_text, RepeatRow, Act, repeat_row, repeats}
use Rattle.table_words.specs.Cells.{typed}
use Rattle.whole_tables.specs.declared.halves.Half.TheVariants.{Upper}
use Rattle.whole_tables.specs.Halves.{half_of}
use Rattle.whole_tables.specs.Whole.{typed_rows_of}
use Rattle.store.specs.Handing.{HandsRecords}
use Rattle.store.specs.declared.fault.Fault.TheVariants.{Store}
use Rattle.store.specs.declared.each_fault.EachFault.{EachFault}
use Rattle.store.specs.declared.each_fault.EachFault.TheVariants.{Fault}

-- the rows of the acts, in the order in which they are stored
abbrev pub stored_acts : State → List RepeatRow
stored_acts s = typed_rows_of repeats s.now.trees

-- those that are stored behind this number; no rowid is above the largest
abbrev pub stored_above : ℕ → State → List RepeatRow
stored_above number s = typed repeats.is repeats.reads (half_of repeats Upper (pos (min number 9_223_372_036_854_775_807)) s.now.trees)

-- but for want of memory or of the disk the rows are these, and the connection was open and is
abbrev pub AreStored : (rows stored : List RepeatRow) → (old new : State) → Result (Unit {0}) EachFault → Type 0
AreStored rows stored old new result = result ≢ Err (Fault Store) → (rows ≡ stored) × IsTrue old.is_open × IsTrue new.is_open

-- each row that was handed over is that of an act; where all were, each act has one. They come as they are stored, in whatever
-- order.
pub record AreActsHanded {K : Type 0} (first : ℤ) (acts : List Act) (old new : State) (takes stops : K → RepeatRow → K → Type 0) (before after : K) (result : Result (Unit {0}) EachFault) : Type 0 where
  pub rows : List RepeatRow
  pub stored : AreStored rows (stored_acts old) old new result
  pub own : AllByRecursion (λ (r : RepeatRow). repeat_row first acts r.k ≡ Some r) rows
  pub every : OnOk result ((k : List ℕ) → find (λ (r : RepeatRow). same_text k r.k) rows ≡ repeat_row first acts k)
  pub handed : HandsRecords takes stops rows before after result

-- The same of the rows that are stored behind this number. A row does not say where it is stored: whether they are all of the
-- later acts is known where the sink has come to the number of the acts.
pub record AreLaterActsHanded {K : Type 0} (first : ℤ) (acts : List Act) (number : ℕ) (old new : State) (takes stops : K → RepeatRow → K → Type 0) (before after : K) (result : Result (Unit {0}) EachFault) : Type 0 where
  pub rows : List RepeatRow
  pub stored : AreStored rows (stored_above number old) old new result
  pub own : AllByRecursion (λ (r : RepeatRow). repeat_row first acts r.k ≡ Some r) rows
  pub handed : HandsRecords takes stops rows before after result
