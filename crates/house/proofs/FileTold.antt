-- What comes of a goods-in file, told in bytes.
use Rattle.house.proofs.Words.{◌≡◌, ◌≢◌, ℕ, List, refl, ap, sym, subst, ◌∙◌, inl, inr, ◌⊎◌, ℤ, Option, Some, None, Result, Ok, Err, OnOk, All, IsTrue, All-weaker, Ghosts, Trees, state, Survives, Refusal, Key, Line, Command, Receive, Act, today, IsHistory, RefusedRow, file_outcome, file_outcome_of, acts_after_file, acts_if_taken, is_key_of, IsReceipt, file_read, FileFault, Header, Row, TooManyRows, Reader, Connected, RowFault, AreBooks, KeepsBooks, HoldsBooks, LeavesOnly, MayLeave, IsClean, rows_of, AreKeysOf, IsFiled, file_fault_code, no_memory, cause_answer, file_outcome_answer, file_fault_answer, file_answer, acts_filed, told_file_answer, IsDone, IsUndone}
use Rattle.machine.specs.Once as once
use Rattle.goodsin.specs.declared.fault.FileFault.TheVariants.{Length, Memory}
use Rattle.store.specs.declared.tally.Tally.{Tally}
use Rattle.store.specs.declared.tally.RowFault.TheVariants.{Refused, Store, Foreign}

-- the keys of receipts are of their kind
receipt_key : (row : Key × Command) → IsReceipt row → IsTrue (is_key_of row.0 row.1)
receipt_key (Line delivery line, Receive receipt) h = refl
receipt_key (_, _) h = absurd h

pub receipts_have_keys : (rows : List (Key × Command)) → All IsReceipt rows → AreKeysOf rows
receipts_have_keys rows all = All-weaker IsReceipt (λ r. IsTrue (is_key_of r.0 r.1)) receipt_key rows all

-- how the faults of a file are told
pub told_without_memory : (fault : FileFault) → (fault ≡ Reader) ⊎ (fault ≡ Memory) → no_memory ≡ file_fault_answer fault
told_without_memory fault (inl is) = sym (ap file_fault_answer is)
told_without_memory fault (inr is) = sym (ap file_fault_answer is)

told_as_cause : (fault other : FileFault) → fault ≡ other → cause_answer (file_fault_code other) ≡ file_fault_answer other → cause_answer (file_fault_code fault) ≡ file_fault_answer fault
told_as_cause fault other is told = ap (λ f. cause_answer (file_fault_code f)) is ∙ told ∙ sym (ap file_fault_answer is)

pub told_by_cause : (fault : FileFault) → (fault ≡ Header) ⊎ ((fault ≡ TooManyRows) ⊎ (fault ≡ Length)) → cause_answer (file_fault_code fault) ≡ file_fault_answer fault
told_by_cause fault (inl is) = told_as_cause fault Header is refl
told_by_cause fault (inr (inl is)) = told_as_cause fault TooManyRows is refl
told_by_cause fault (inr (inr is)) = told_as_cause fault Length is refl

-- a file that is refused leaves the acts
left_by : (acts : List Act) (t : once.Tally) (o : Option (ℕ × Refusal)) (row : ℕ) (why : Refusal) → RefusedRow row why ≡ file_outcome_of t o → acts_if_taken acts t o ≡ acts
left_by acts t None row why e = absurd (let no = e in cc)
left_by acts t (Some r) row why e = refl

refused_leaves : (first : ℤ) (acts rows : List Act) (row : ℕ) (why : Refusal) → RefusedRow row why ≡ file_outcome first acts rows → acts_after_file first acts rows ≡ acts
refused_leaves first acts rows row why e = left_by acts (once.tally first acts rows) (once.tally first acts rows).refused row why e

module _ {S : Type 0} (g : Ghosts S) (first : ℤ) (acts : List Act) (old : Connected S) where
  -- a file that was read is answered, or there was no memory
  abbrev pub IsFileDone : Result (List (Key × Command)) FileFault → List ℕ → Connected S → Type 0
  IsFileDone read bytes books = IsDone g first acts old (file_answer first acts read) (acts_filed first acts read) bytes books ⊎ IsUndone g first acts old (acts_filed first acts read) bytes books

  -- it was read at the business day
  pub read_today : (text : List ℕ) (day : ℤ) (read : Result (List (Key × Command)) FileFault) (bytes : List ℕ) (books : Connected S) → read ≡ file_read day text → day ≡ today first acts
      → IsFileDone read bytes books → IsFileDone (file_read (today first acts) text) bytes books
  read_today text day read bytes books is_read is_today h = subst (λ r. IsFileDone r bytes books) (is_read ∙ ap (λ t. file_read t text) is_today) h

  module _ (history : IsHistory first acts) (holds : HoldsBooks g first acts old) where
    told_fault : (read : Result (List (Key × Command)) FileFault) (fault : FileFault) (bytes : List ℕ) → bytes ≡ file_fault_answer fault → Err fault ≡ read → IsFileDone read bytes old
    told_fault read fault bytes e is =
        subst (λ r. IsFileDone r bytes old) is (inl (record { answer = e; history = history; holds = holds; kept = λ trees left. inr (left, refl) }))

    -- a file that does not read as one
    pub not_taken : (read : Result (List (Key × Command)) FileFault) (fault : FileFault) (bytes : List ℕ) → bytes ≡ file_fault_answer fault → (fault ≢ Memory → fault ≢ Reader → Err fault ≡ read) → IsFileDone read bytes old
    not_taken read Header bytes e reads = told_fault read Header bytes e (reads (λ no. absurd (let it = no in cc)) (λ no. absurd (let it = no in cc)))
    not_taken read (Row row) bytes e reads = told_fault read (Row row) bytes e (reads (λ no. absurd (let it = no in cc)) (λ no. absurd (let it = no in cc)))
    not_taken read TooManyRows bytes e reads = told_fault read TooManyRows bytes e (reads (λ no. absurd (let it = no in cc)) (λ no. absurd (let it = no in cc)))
    not_taken read Length bytes e reads = told_fault read Length bytes e (reads (λ no. absurd (let it = no in cc)) (λ no. absurd (let it = no in cc)))
    not_taken read Reader bytes e reads = inr (record { answer = e; holds = holds; kept = λ trees left. inl left })
    not_taken read Memory bytes e reads = inr (record { answer = e; holds = holds; kept = λ trees left. inl left })

    -- rows that were acted on
    module _ (rows : List (Key × Command)) (books : Connected S) (clean : IsClean g books) (keys : AreKeysOf rows)
        (survives : Survives (state g old.conn) (state g books.conn) (λ trees. AreKeysOf rows → (first : ℤ) (acts : List Act) → IsHistory first acts → KeepsBooks first acts (state g old.conn)
        → AreBooks first (acts_after_file first acts (rows_of rows)) trees)) where
      whole_or_none : (trees : Trees) → MayLeave g books trees → MayLeave g old trees ⊎ AreBooks first (acts_after_file first acts (rows_of rows)) trees
      whole_or_none trees left = elim (survives.crash clean trees left) [ inl before ↦ inl before | inr file ↦ inr (file keys first acts history holds.keeps) ]

      pub taken_in : (done : Result Tally RowFault) (bytes : List ℕ) → bytes ≡ told_file_answer done → IsHistory first (acts_after_file first acts (rows_of rows)) → IsFiled g first acts (rows_of rows) done books
          → OnOk done (LeavesOnly first (acts_after_file first acts (rows_of rows)) (state g books.conn)) → IsFileDone (Ok rows) bytes books
      taken_in (Ok tally) bytes e later h kept = inl (record {
        answer = e ∙ ap file_outcome_answer h.0;
        history = later;
        holds = h.2;
        kept = λ trees left. inl (kept trees left);
      })
      taken_in (Err (Refused row why)) bytes e later h kept =
          let none = refused_leaves first acts (rows_of rows) row why h.0 in
          inl (record {
            answer = e ∙ ap file_outcome_answer h.0;
            history = later;
            holds = subst (λ a. HoldsBooks g first a books) (sym none) h.1;
            kept = λ trees left. elim (whole_or_none trees left) [ inl before ↦ inr (before, none) | inr file ↦ inl file ];
          })
      taken_in (Err Store) bytes e later h kept = inr (record {
        answer = e;
        holds = h;
        kept = λ trees left. elim (whole_or_none trees left) [ inl before ↦ inl before | inr file ↦ inr (later, file) ];
      })
      taken_in (Err Foreign) bytes e later h kept = absurd h
