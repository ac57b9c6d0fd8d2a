-- Records of the books handed to a sink, outside every transaction.
use Rattle.store.proofs.Words.{◌≡◌, ℕ, List, [], inl, inr, refl, sym, subst, ◌∙◌, arith, ◌≢◌, ◌⊎◌, ℤ, Result, Ok, Err, IsTrue, State, HasCleanDisk, KeepsCommit, Survives, IsUnchanged, IsRolledBack, Error, survives_then, survives_weaker, Act, IsReady, kept_itself, kept_unchanged, kept_undone, kept_then, IsBooksOf, RowsFault, HandsOver, IsLeft, KeepsBooks, IsSettled, each_fault_of, IsHandedOn, NoBooks, Store, EachFault}
use Rattle.sqlite.specs.State.{IsNotRun}
use Rattle.sqlite_value.specs.Order.{Row}
use Rattle.table_words.specs.declared.error.TableFault.TheVariants as table
use Rattle.keyed_rows.specs.declared.each_fault.EachFault.TheVariants as rows
use Rattle.store.specs.declared.each_fault.EachFault.TheVariants.{Fault}

-- a statement that was not made ready changes nothing, or the store failed
pub not_run_left : (sql : List ℕ) (params : Row) (old new : State) (e : Error) → IsNotRun old new sql params e → IsUnchanged old new ⊎ IsRolledBack old new
unfolding IsNotRun
not_run_left sql params old new e (inl h) = inl h.1
not_run_left sql params old new e (inr h) = inr h.3

module _ (first : ℤ) (acts : List Act) (old new : State) where
  -- what changes nothing, or goes back to the last commit, keeps the books
  pub left_keeps : KeepsBooks first acts old → IsUnchanged old new ⊎ IsRolledBack old new → KeepsBooks first acts new
  left_keeps held (inl same) = record {
    books = λ up. subst (IsBooksOf first acts) (sym same.0.now_is) (held.books same.0.was_open);
    settled = λ up. same.0.committed_is ∙ held.settled same.0.was_open ∙ sym same.0.now_is;
  }
  left_keeps held (inr back) = record {
    books = λ up. subst (IsBooksOf first acts) (sym (held.settled (back.was_open up)) ∙ sym (back.undone up).0) (held.books (back.was_open up));
    settled = λ up. (back.undone up).1 ∙ sym (back.undone up).0;
  }

  -- the books of an open connection that changed nothing
  pub books_on : KeepsBooks first acts old → IsUnchanged old new → IsBooksOf first acts new.now
  books_on held same = subst (IsBooksOf first acts) (sym same.0.now_is) (held.books same.0.was_open)

module _ {X K : Type 0} (first : ℤ) (acts : List Act) (takes stops : K → X → K → Type 0) (records : List X) (before after : K) (old mid new : State) where
  pub handed_all : KeepsBooks first acts mid → HandsOver takes stops before records after (Ok tt) → IsLeft mid new (Ok tt) → IsHandedOn first acts takes stops records before after (Ok tt) new
  handed_all held h left = (h, left_keeps first acts mid new held (inl left))

  pub handed_some : (fault : RowsFault) → KeepsBooks first acts mid → HandsOver takes stops before records after (Err fault) → IsLeft mid new (Err fault) → IsHandedOn first acts takes stops records before after (Err (each_fault_of fault)) new
  handed_some (rows.Fault (table.Store cause)) held h left = (h, left_keeps first acts mid new held left)
  handed_some (rows.Fault table.Foreign) held h left = absurd h
  handed_some rows.Stopped held h left = (h, left_keeps first acts mid new held (inl left))

-- but for a fault of the store the connection is open
pub still_open : {X K : Type 0} (takes stops : K → X → K → Type 0) (records : List X) (before after : K) (mid new : State) (fault : RowsFault) → HandsOver takes stops before records after (Err fault) → IsLeft mid new (Err fault)
    → ◌≢◌ {A = Result (Unit {0}) EachFault} (Err (each_fault_of fault)) (Err (Fault Store)) → IsTrue new.is_open
still_open takes stops records before after mid new (rows.Fault (table.Store cause)) h left some = absurd (some refl)
still_open takes stops records before after mid new (rows.Fault table.Foreign) h left some = absurd h
still_open takes stops records before after mid new rows.Stopped h left some = left.0.is_open

-- nothing was handed over
pub handed_none : {X K : Type 0} (first : ℤ) (acts : List Act) (takes stops : K → X → K → Type 0) (records : List X) (sink : K) (old new : State) → KeepsBooks first acts old → IsUnchanged old new ⊎ IsRolledBack old new
    → IsHandedOn first acts takes stops records sink sink (Err (Fault Store)) new
handed_none first acts takes stops records sink old new held left = (record { taken = []; others = records; parts = refl; reached = refl }, left_keeps first acts old new held left)

-- ---- nothing is committed

pub never_commits_none : (old new : State) → Survives old new (λ _. ⊥) → Survives old new (NoBooks old)
never_commits_none old new one = survives_weaker old new _ (NoBooks old) (λ clean db none. absurd none) one

pub never_commits_on : (old mid new : State) → Survives old mid (λ _. ⊥) → Survives mid new (λ _. ¬ IsReady mid.now) → (HasCleanDisk mid → IsUnchanged old mid) → Survives old new (NoBooks old)
never_commits_on old mid new one two same =
    survives_then old mid new _ _ (NoBooks old) (λ clean db none. absurd none)
    (λ clean db unready first acts history held. unready (books_on first acts old mid held (same (omega (arith, clean, two.clean)))).ready) one two

-- ---- the same on tables of whatever origin

left_or_undone : (mid new : State) (r : Result (Unit {0}) RowsFault) → IsLeft mid new r → IsUnchanged mid new ⊎ IsRolledBack mid new
left_or_undone mid new (Ok all) left = inl left
left_or_undone mid new (Err (rows.Fault fault)) left = left
left_or_undone mid new (Err rows.Stopped) left = inl left

-- what commits nothing, and leaves the connection settled
abbrev pub Stays : State → State → Type 0
Stays old new = HasCleanDisk new → IsSettled old → KeepsCommit old new × IsSettled new

pub settled_back : (old last new : State) → IsSettled old → KeepsCommit old last → IsRolledBack last new → IsSettled new
settled_back old last new at kept back = record {
  ready = λ up. subst IsReady (sym (shows up)) (at.ready (kept.was_open (back.was_open up)));
  settled = λ up. (back.undone up).1 ∙ sym (back.undone up).0;
}
  where
    shows : IsTrue new.is_open → new.now ≡ old.now
    shows up = (back.undone up).0 ∙ kept.committed (back.was_open up) ∙ at.settled (kept.was_open (back.was_open up))

settled_same : (old new : State) → IsSettled old → IsUnchanged old new → IsSettled new
settled_same old new at same = record {
  ready = λ up. subst IsReady (sym same.0.now_is) (at.ready same.0.was_open);
  settled = λ up. same.0.committed_is ∙ at.settled same.0.was_open ∙ sym same.0.now_is;
}

pub left_stays : (old new : State) → IsUnchanged old new ⊎ IsRolledBack old new → IsSettled old → KeepsCommit old new × IsSettled new
left_stays old new (inl same) at = (kept_unchanged old new same, settled_same old new at same)
left_stays old new (inr back) at = (kept_undone old new back, settled_back old old new at (kept_itself old) back)

stays_then : (a b c : State) → KeepsCommit a b × IsSettled b → (IsSettled b → KeepsCommit b c × IsSettled c) → KeepsCommit a c × IsSettled c
stays_then a b c one two = let next = two one.1 in (kept_then a b c one.0 next.0, next.1)

-- what hands rows over leaves the connection settled
pub handed_stays : (old mid new : State) (r : Result (Unit {0}) RowsFault) → IsSettled old → IsUnchanged old mid → (IsReady mid.now → IsLeft mid new r) → KeepsCommit old new × IsSettled new
handed_stays old mid new r at same left =
    stays_then old mid new (left_stays old mid (inl same) at) (left_stays mid new (left_or_undone mid new r (left (subst IsReady (sym same.0.now_is) (at.ready same.0.was_open)))))
