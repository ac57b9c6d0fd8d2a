-- The rows of a file within a transaction, and then the transaction's end.
use Rattle.store.proofs.Words.{◌≡◌, true, false, List, Ok, Err, Result, OnOk, sym, subst, ◌∙◌, IsTrue, arith, ℤ, IsErr, IsErrAnd, IsOk, State, HasCleanDisk, Shows, Survives, Held, state, Trees, Key, Command, Ends, survives_of, Act, today, IsHistory, acts_after_file, IsBooksOf, AreBooks, KeepsBooks, rows_of, AreKeysOf, IsFiledInside, IsFiledOn, IsFiled, RowFault, Filed}
use Rattle.sqlite.specs.Store.{Ghosts}
use Rattle.store.specs.declared.tally.RowFault.TheVariants.{Refused, Store, Foreign}
use Rattle.store.proofs.ActsWhole.{KeepsInside, books_in, books_begun, undone_whole, not_committed}

pub by_row_error : {X : Type 0} (r : Result X RowFault) (f : RowFault) → IsErr r × IsErrAnd r (λ e. e ≡ f) → (P : Result X RowFault → Type 0) → P (Err f) → P r
by_row_error (Ok x) f h P p = absurd (let no = h.0 in cc)
by_row_error (Err e) f h P p = subst (λ (x : RowFault). P (Err x)) (sym h.1) p

module _ (first : ℤ) (acts rows : List Act) (day : ℤ) (old begun : State) (is : begun ≡ record old { in_transaction = true }) (history : IsHistory first acts) (held : KeepsBooks first acts old) where
  -- it is committed
  filed_whole : (filed : Filed) (last new : State) → IsFiledInside first acts rows day (Ok filed) begun last → Shows last new last.now last.now false → IsFiledOn first acts rows day (Ok filed) new
  filed_whole filed last new done shows = (
    done.0,
    shows.is_open,
    record {
      books = λ up. subst (IsBooksOf first (acts_after_file first acts rows)) (sym shows.now_is) done.1.books;
      settled = λ up. shows.committed_is ∙ sym shows.now_is;
    },
    done.2,
  )

  -- what is refused, and what fails, leaves the books
  refused_file : (fault : RowFault) (last new : State) → IsFiledInside first acts rows day (Err fault) begun last → KeepsBooks first acts new → IsFiledOn first acts rows day (Err fault) new
  refused_file (Refused row why) last new done kept = (done, kept)
  refused_file Store last new done kept = kept
  refused_file Foreign last new done kept = absurd done

-- what is promised of a file on every history: within its transaction, of the whole of it, and of a stop in it

abbrev pub OnBooks : List (Key × Command) → State → (ℤ → List Act → Type 0) → Type 0
OnBooks rows old P =
    AreKeysOf rows → (first : ℤ) (acts : List Act) → IsHistory first acts → (IsTrue old.is_open → IsBooksOf first acts old.now) → P first acts

abbrev pub FilesInside : List (Key × Command) → ℤ → Result Filed RowFault → State → State → Type 0
FilesInside rows day r old new = HasCleanDisk new → OnBooks rows old (λ first acts. IsFiledInside first acts (rows_of rows) day r old new)

abbrev pub FilesWhole : List (Key × Command) → ℤ → Result Filed RowFault → State → State → Type 0
FilesWhole rows day r old new =
    HasCleanDisk new → AreKeysOf rows → (first : ℤ) (acts : List Act) → IsHistory first acts → KeepsBooks first acts old → IsFiledOn first acts (rows_of rows) day r new

abbrev pub FileSurvives : List (Key × Command) → State → State → Type 0
FileSurvives rows old new =
    Survives old new (λ trees. AreKeysOf rows → (first : ℤ) (acts : List Act) → IsHistory first acts → KeepsBooks first acts old
    → AreBooks first (acts_after_file first acts (rows_of rows)) trees)

module _ (rows : List (Key × Command)) (day : ℤ) (old begun last new : State) (is : begun ≡ record old { in_transaction = true }) where
  pub file_finished : {Q : Trees → Type 0} (done r : Result Filed RowFault) → FilesInside rows day done begun last → KeepsInside begun last → Survives last new Q → Ends (λ _ e. e ≡ Store) done r last new → FilesWhole rows day r old new
  file_finished (Ok filed) (Ok same) inside keeps survives ends clean keys first acts history held =
      let was : HasCleanDisk last = omega (arith, clean, survives.clean) in
      let done = inside was keys first acts history (books_begun first acts old begun is held) in
      subst (λ (x : Filed). IsFiledOn first acts (rows_of rows) day (Ok x) new) (sym ends.0) (filed_whole first acts (rows_of rows) day old begun is history held filed last new done (ends.1 clean))
  file_finished (Ok filed) (Err e) inside keeps survives ends clean keys first acts history held =
      let was : HasCleanDisk last = omega (arith, clean, survives.clean) in
      let books = books_begun first acts old begun is held in
      let done = inside was keys first acts history books in
      subst (λ (x : RowFault). IsFiledOn first acts (rows_of rows) day (Err x) new) (sym ends.1) (not_committed first acts old begun is held last new ends.0 (keeps was (λ up. (books up).ready)) done.1.mode (ends.2 clean))
  file_finished (Err fault) r inside keeps survives ends clean keys first acts history held =
      let was : HasCleanDisk last = omega (arith, clean, survives.clean) in
      let books = books_begun first acts old begun is held in
      subst (λ (x : Result Filed RowFault). IsFiledOn first acts (rows_of rows) day x new) (sym ends.0)
      (refused_file first acts (rows_of rows) day old begun is history held fault last new (inside was keys first acts history books) (undone_whole first acts old begun is held last new (keeps was (λ up. (books up).ready)) (ends.1 clean)))

  -- a stop leaves the books before or with the whole file
  pub file_stopped : (done : Result Filed RowFault) → FilesInside rows day done begun last → Survives begun last (λ _. ⊥) → Survives last new (λ db. IsOk done × (db ≡ last.now.trees)) → FileSurvives rows old new
  file_stopped done inside before ends = survives_of done old begun last new _ is before ends (λ clean. by_answer done inside (let was : HasCleanDisk last = omega (arith, clean, ends.clean) in was))
    where
      by_answer : (done : Result Filed RowFault) → FilesInside rows day done begun last → HasCleanDisk last → OnOk done (AreKeysOf rows → (first : ℤ) (acts : List Act) → IsHistory first acts → KeepsBooks first acts old
          → AreBooks first (acts_after_file first acts (rows_of rows)) last.now.trees)
      by_answer (Ok filed) inside was = λ keys first acts history held. books_in last.now (inside was keys first acts history (books_begun first acts old begun is held)).1.books
      by_answer (Err fault) inside was = tt

-- the same of the books, which know their business day
module _ {S : Type 0} (g : Ghosts S) (first : ℤ) (acts rows : List Act) (day : ℤ) where
  pub file_answered : (filed : Filed) (new : Held S) → day ≡ today first acts → IsFiledOn first acts rows day (Ok filed) (state g new)
      → IsFiled g first acts rows (Ok filed.tally) (record { conn = new; day = filed.day })
  file_answered filed new is done = (done.0, done.1, record { keeps = done.2; day = done.3 is })

  pub file_faulted : (why : RowFault) (new : Held S) → day ≡ today first acts → IsFiledOn first acts rows day (Err why) (state g new)
      → IsFiled g first acts rows (Err why) (record { conn = new; day = day })
  file_faulted (Refused row why) new is done = (done.0, record { keeps = done.1; day = is })
  file_faulted Store new is done = record { keeps = done; day = is }
  file_faulted Foreign new is done = done
