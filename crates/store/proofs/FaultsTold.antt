-- The fault that a call answers, told on.
use Rattle.store.proofs.Words.{◌≡◌, inl, inr, ℕ, List, Ok, Err, Result, sym, subst, IsErr, IsErrAnd, State, KeepsCommit, Error, kept_unchanged, kept_undone, Fault}
use Rattle.sqlite.specs.Order.{Row}
use Rattle.sqlite.specs.State.{IsNotRun}

-- the answer of a `?`
pub by_error : {X : Type 0} (r : Result X Fault) (f : Fault) → IsErr r × IsErrAnd r (λ e. e ≡ f) → (P : Result X Fault → Type 0) → P (Err f) → P r
by_error (Ok x) f h P p = absurd (let no = h.0 in cc)
by_error (Err e) f h P p = subst (λ (x : Fault). P (Err x)) (sym h.1) p

-- a statement that was not made ready commits nothing
pub not_run_kept : (sql : List ℕ) (params : Row) (old new : State) (e : Error) → IsNotRun old new sql params e → KeepsCommit old new
unfolding IsNotRun
not_run_kept sql params old new e (inl h) = kept_unchanged old new h.1
not_run_kept sql params old new e (inr h) = kept_undone old new h.3
