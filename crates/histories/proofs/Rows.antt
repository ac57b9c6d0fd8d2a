-- What a fault tells of the rows of the acts.
use Rattle.histories.proofs.Words.{◌≡◌, ℕ, List, inl, inr, subst, Option, Some, ℤ, AllByRecursion, StopsWithin, RepeatRow, Act, IsHistory, repeat_row, GoOnFrom, IsOfSpelling, row_line, HistoryFault, unspelled, IsNoMisfit, IsUnlike, TakesRow, LineFault, KnownLines}
use Rattle.histories.specs.declared.fault.HistoryFault.TheVariants as history
use Rattle.histories.proofs.InTurn.{not_in_turn}
use Rattle.histories.specs.LineFaults.{IsOfRow}
use Rattle.histories.specs.Known.{StopsAt}
use Rattle.histories.specs.declared.reading.ReadFault.TheVariants as read
use Rattle.histories.specs.declared.line_fault.LineFault.TheVariants as told

pub no_misfit : (done : ℕ) (row : RepeatRow) (fault : LineFault) → IsOfRow done row fault → IsNoMisfit fault
no_misfit done row told.Memory own = tt
no_misfit done row told.Input own = tt
no_misfit done row told.Foreign own = tt
no_misfit done row (told.Differs n) own = own
no_misfit done row told.OutOfTurn own = own

pub of_unspelled : (done : ℕ) (row : RepeatRow) (why : HistoryFault) → IsOfSpelling row.spell why → IsOfRow done row (unspelled why)
of_unspelled done row history.Store h = tt
of_unspelled done row history.Foreign h = inr h
of_unspelled done row history.Output h = tt

-- it is told that a row is foreign only where the rows are not in turn
pub of_rows : {R : Type 0} (remaining : R → Option (List ℕ)) (first : ℤ) (acts : List Act) (rows : List RepeatRow) (start after : KnownLines R) → IsHistory first acts → start.done ≡ 0 → AllByRecursion (λ (r : RepeatRow). repeat_row first acts r.k ≡ Some r) rows
    → StopsWithin (TakesRow remaining) (StopsAt remaining) start rows after → after.fault ≡ told.Foreign → ¬ GoOnFrom 0 rows
of_rows {R} remaining first acts rows start after history none mine h foreign = elim h.stopped [
  | inl own ↦
      not_in_turn (TakesRow remaining) (λ (l : KnownLines R). l.done) (λ now r then t. t.done) first acts (StopsAt remaining) rows start after history none mine h (subst (IsOfRow h.last.done h.next) foreign own)
  | inr miss ↦ absurd (subst (IsUnlike h.next.act (row_line miss.1 h.next) after.line.items) foreign miss.3.unlike)
]
