-- Two databases compared by the halves of a table.
use Rattle.std.specs.Prelude.{◌≡◌, ℤ, Bool, true, Result, Ok, OnOk, IfErr}
use Rattle.std.specs.List.{AllByRecursion}
use Rattle.sqlite.specs.Effect.{Database}
use Rattle.sqlite.specs.State.{State, Survives, IsUnchanged}
use Rattle.table_words.specs.Cells.{typed}
use Rattle.keyed_rows.specs.Described.{Described}
use Rattle.whole_tables.specs.declared.halves.Half.{Half}
use Rattle.whole_tables.specs.Halves.{half_of}
use Rattle.audits.specs.declared.finding.Unread.{Unread}
use Rattle.audits.specs.Comparing.{IsUnread, AreSeen}

-- the two have the same rows in this half, in the same order, and each row that the first stores there reads as a typed one
pub record SameHalf {X K : Type 0} (d : Described X K) (part : Half) (middle : ℤ) (a b : Database) : Type 0 where
  pub same : typed d.is d.reads (half_of d part middle a.trees) ≡ typed d.is d.reads (half_of d part middle b.trees)
  pub typed_rows : AllByRecursion (λ r. d.is r ≡ true) (half_of d part middle a.trees)

-- Where the answer is yes this holds of the two databases. Nothing is changed, and nothing is committed.
pub record TellsAlike (P : Database → Database → Type 0) (old new before after : State) (result : Result Bool Unread) : Type 0 where
  pub alike : AreSeen old new before after → result ≡ Ok true → P old.now before.now
  pub same : AreSeen old new before after → OnOk result (IsUnchanged old new × IsUnchanged before after)
  pub unread : AreSeen old new before after → IfErr result (IsUnread old.now.trees)
  pub survives : Survives old new (λ _. ⊥)
  pub survives_too : Survives before after (λ _. ⊥)
