-- A look at a connection that was found open.
use Rattle.store.proofs.Words.{Result, Ok, Err, IsTrue, sym, subst, arith, Option, Tables, Database, State, HasCleanDisk, Survives, KeepsCommit, IsUnchanged, IsReady, tables_in, TableFault, kept_unchanged, kept_then, inside_then, IsRead, Known, RowsKnown, read_fault, read_kept, Asking, fault_of, IsInside, Looks}
use Rattle.store.proofs.ActsInside.{books_kept}
use Rattle.store.proofs.OpenedBooks.{store_else}

module _ {old mid new : State} (before : Survives old mid (λ _. ⊥)) (same : HasCleanDisk mid → IsUnchanged old mid) where
  was_same : Survives mid new (λ _. ⊥) → HasCleanDisk new → IsUnchanged old mid
  was_same survives clean = same (omega (arith, clean, survives.clean))

  kept_later : {X : Type 0} (is_so : Tables → X → Type 0) (r : Result X TableFault) → IsRead is_so mid new r → HasCleanDisk new → (IsTrue old.is_open → IsReady old.now) → KeepsCommit old new
  kept_later is_so r one clean ready =
      let is = was_same one.survives clean in
      kept_then old mid new (kept_unchanged old mid is) (read_kept is_so mid new r one clean (subst IsReady (sym is.0.now_is) (ready is.0.was_open)) is.0.is_open)

  -- what it tells holds of the tables, which were shown by an open connection
  told_later : {X : Type 0} (is_so : Tables → X → Type 0) (x : X) → IsRead is_so mid new (Ok x) → HasCleanDisk new → (IsTrue old.is_open → IsReady old.now) → IsTrue old.is_open × is_so (tables_in old.now.trees) x
  told_later is_so x one clean ready =
      let is = was_same one.survives clean in
      let told = one.answers clean (subst IsReady (sym is.0.now_is) (ready is.0.was_open)) is.0.is_open in
      (is.0.was_open, subst (λ (db : Database). is_so (tables_in db.trees) x) is.0.now_is told.1)

  pub finds_later : {X : Type 0} {is_in : Tables → X → Type 0} {known : Option Known} {rows after : RowsKnown} (x : X) → IsRead (Asking known rows after is_in) mid new (Ok x) → IsInside (Looks is_in known rows after (Ok x)) old new
  finds_later {X} {is_in} {known} {rows} {after} x one = record {
    survives = inside_then old mid new before one.survives;
    does = record {
      found = λ clean first acts books knows.
          let told = told_later (Asking known rows after is_in) x one clean (λ up. (books up).ready) in
          subst (λ (t : Tables). is_in t x) (books told.0).rows.tables (told.1 (knows told.0)).0;
      knows = λ clean ready knows. let told = told_later (Asking known rows after is_in) x one clean ready in (told.1 (knows told.0)).1;
      kept = kept_later (Asking known rows after is_in) (Ok x) one;
    };
  }

  -- no row of the books of a history is foreign
  pub fails_later : {X : Type 0} {is_in : Tables → X → Type 0} {known : Option Known} {rows after : RowsKnown} (e : TableFault) → IsRead (Asking known rows after is_in) mid new (Err e) → IsInside (Looks is_in known rows after (Err (fault_of e))) old new
  fails_later {X} {is_in} {known} {rows} {after} e one = record {
    survives = inside_then old mid new before one.survives;
    does = record {
      found = λ clean first acts books knows.
          let is = was_same one.survives clean in
          store_else e (read_fault (Asking known rows after is_in) mid new (Err e) one clean is.0.is_open first acts (books_kept first acts old mid is (books is.0.was_open)));
      knows = λ clean ready knows. tt;
      kept = kept_later (Asking known rows after is_in) (Err e) one;
    };
  }
