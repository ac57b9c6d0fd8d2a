-- What a transaction comes to, by how it ends.
use Rattle.books_schema.proofs.Words.{◌≡◌, true, false, Ok, Err, Result, OnOk, OnErr, IfErr, sym, subst, inl, inr, IsOk, State, HasCleanDisk, Shows, IsRolledBack, KeepsCommit, Survives, FailsToCommit, Trees, Error, survives_then, kept_undone, kept_unchanged, Ends}

-- in a transaction that goes on, a commit that fails puts back what was there before
pub rolled_back : (last new : State) (cause : Error) → last.in_transaction ≡ true → FailsToCommit last new cause → IsRolledBack last new
rolled_back last new cause inside (inl fails) = fails.3
rolled_back last new cause inside (inr late) = absurd (let out = late.1 in cc)

failed_kept : (last new : State) (cause : Error) → FailsToCommit last new cause → KeepsCommit last new
failed_kept last new cause (inl fails) = kept_undone last new fails.3
failed_kept last new cause (inr late) = kept_unchanged last new late.2

module _ {T E : Type 0} (made : Error → E → Type 0) where
  -- what is so of each fault of the transaction, and of each of the commit
  pub err_of : (done r : Result T E) (last new : State) (Q : E → Type 0) → Ends made done r last new → ((cause : Error) (e : E) → made cause e → Q e) → IfErr done Q → IfErr r Q
  err_of (Ok x) (Ok y) last new Q ends commit h = tt
  err_of (Ok x) (Err e) last new Q ends commit h = commit ends.0 e ends.1
  err_of (Err e) r last new Q ends commit h = subst (λ r. IfErr r Q) (sym ends.0) h

  -- what was done is committed
  pub whole_of : (done r : Result T E) (last new : State) {P Q : Type 0} → Ends made done r last new → HasCleanDisk new → (P → Shows last new last.now last.now false → Q) → OnOk done P → OnOk r Q
  whole_of (Ok x) (Ok y) last new ends clean f h = f h (ends.1 clean)
  whole_of (Ok x) (Err e) last new ends clean f h = tt
  whole_of (Err e) r last new {P} {Q} ends clean f h = subst (λ r. OnOk r Q) (sym ends.0) tt

  -- or nothing is
  pub undone_of : (done r : Result T E) (last new : State) {P Q : Type 0} → Ends made done r last new → HasCleanDisk new → (P → last.in_transaction ≡ true) → (IsRolledBack last new → Q) → OnOk done P → OnErr r Q
  undone_of (Ok x) (Ok y) last new ends clean inside f h = tt
  undone_of (Ok x) (Err e) last new ends clean inside f h = f (rolled_back last new ends.0 (inside h) (ends.2 clean))
  undone_of (Err e) r last new {P} {Q} ends clean inside f h = subst (λ r. OnErr r Q) (sym ends.0) (f (ends.1 clean))

  pub kept_of : (done r : Result T E) (last new : State) {Q : Type 0} → Ends made done r last new → HasCleanDisk new → (KeepsCommit last new → Q) → OnErr r Q
  kept_of (Ok x) (Ok y) last new ends clean f = tt
  kept_of (Ok x) (Err e) last new ends clean f = f (failed_kept last new ends.0 (ends.2 clean))
  kept_of (Err e) r last new {Q} ends clean f = subst (λ r. OnErr r Q) (sym ends.0) (f (kept_undone last new (ends.1 clean)))

-- what follows of an answer under a premise
pub if_so : {X E P : Type 0} (Q : Type 0) (r : Result X E) → (P → OnOk r Q) → OnOk r (P → Q)
if_so Q (Ok x) f = f
if_so Q (Err e) f = tt

-- and under one that holds of each answer
pub then_so : {X E P : Type 0} (Q : Type 0) (r : Result X E) → OnOk r P → (P → OnOk r Q) → OnOk r Q
then_so Q (Ok x) p f = f p
then_so Q (Err e) p f = tt

at_ok : {T E P : Type 0} (done : Result T E) → IsOk done → OnOk done P → P
at_ok (Ok x) is h = h
at_ok (Err e) is h = absurd (let no = is in cc)

-- a stop leaves what there was before the transaction, or the whole of what was done
pub survives_of : {T E : Type 0} (done : Result T E) (old begun last new : State) (P : Trees → Type 0) → begun ≡ record old { in_transaction = true } → Survives begun last (λ _. ⊥)
    → Survives last new (λ db. IsOk done × (db ≡ last.now.trees)) → (HasCleanDisk new → OnOk done (P last.now.trees)) → Survives old new P
survives_of done old begun last new P is before ends whole =
    let first = rw is at before in
    let one : Survives old last (λ _. ⊥) = record { clean = first.clean; shield = first.shield; counts = first.counts; limit = first.limit; closes = first.closes; crash = first.crash } in
    survives_then old last new (λ _. ⊥) (λ db. IsOk done × (db ≡ last.now.trees)) P (λ _ db none. absurd none) (λ clean db left. subst P (sym left.1) (at_ok done left.0 (whole clean))) one ends
