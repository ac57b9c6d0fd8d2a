-- A decision told with the faults of the books.
use Rattle.store.proofs.Words.{◌≡◌, ◌∙◌, List, Ok, Err, Result, ap, sym, subst, ℤ, MatchResult, IsErrAnd, err_from_is_err_and, Act, IsDecision, RuleFault, NoMemory, fault_of_rule, Change, Fault, IsDecidedByRows}
use Rattle.row_rules.specs.declared.slice.RuleFault.TheVariants.{Refused, Foreign}

fault_told : (first : ℤ) (act : Act) (acts : List Act) (fault : RuleFault) → IsDecision first act acts (Err fault) → IsDecidedByRows first act acts (Err (fault_of_rule fault))
fault_told first act acts (Refused why) h = h
fault_told first act acts NoMemory h = tt
fault_told first act acts Foreign h = h

-- once the rows are read
pub decided_by_rows : (first : ℤ) (act : Act) (acts : List Act) (found : Result Change RuleFault) (r : Result Change Fault) → MatchResult found (λ x. r ≡ Ok x) (λ e. IsErrAnd r (λ f. f ≡ fault_of_rule e)) → IsDecision first act acts found → IsDecidedByRows first act acts r
decided_by_rows first act acts (Ok change) r is h = subst (IsDecidedByRows first act acts) (sym is) h
decided_by_rows first act acts (Err fault) r told h =
    let e = err_from_is_err_and r told in
    subst (IsDecidedByRows first act acts) (sym (e.1 ∙ ap (λ (f : Fault). Err f) e.2)) (fault_told first act acts fault h)
