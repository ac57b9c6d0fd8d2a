-- The acts that were printed to a writer that was lent.
use Rattle.service.proofs.Words.{◌≡◌, ℕ, List, [], Option, Result, Ok, Err, inl, inr, ◌⊎◌, ℤ, Appends, Act, AppendsBeginning, history_text, IsStart, IsHistoryPrinted, HistoryFault, fault_told, behind}
use Rattle.histories.specs.declared.fault.HistoryFault.TheVariants as history
use Rattle.service.proofs.Lending.{appended, begun}

pub acts_back : (first : ℤ) (acts : List Act) (name other : ℕ) (out back last : Option (List ℕ)) → (name ≡ other → last ≡ back) → (end : Result Unit HistoryFault)
    → IsHistoryPrinted first acts (behind name out) (behind other back) end → IsHistoryPrinted first acts out last (fault_told end)
acts_back first acts name other out back last same (Ok done) h = (h.0, h.1, appended name other back last same out (history_text h.0 acts) h.2)
acts_back first acts name other out back last same (Err fault) h = told fault (elim h [
  | inl none ↦ inl (appended name other back last same out [] none)
  | inr some ↦ inr (some.0, some.1, begun name other back last same out (history_text some.0 acts) some.2)
])
  where
    told : (f : HistoryFault) → Appends out last [] ⊎ ((day : ℤ) × IsStart first acts day × AppendsBeginning out last (history_text day acts)) → IsHistoryPrinted first acts out last (fault_told (Err f))
    told history.Store it = it
    told history.Foreign it = it
    told history.Output it = it
