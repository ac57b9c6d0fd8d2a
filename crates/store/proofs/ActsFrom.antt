-- An act within its transaction, from the state that a read left.
use Rattle.store.proofs.Words.{◌≡◌, List, Result, Ok, Err, refl, subst, sym, IsTrue, arith, ℤ, Option, IsErr, IsErrAnd, Tables, State, HasCleanDisk, KeepsCommit, IsUnchanged, IsReady, tables_in, TableFault, kept_itself, kept_unchanged, kept_then, inside_itself, inside_then, Act, IsHistory, is_key_of, IsBooksOf, IsRead, Known, read_fault, IsInsideOpen, Acts, IsActedInside, fault_of, HasKnown, Fault, Reply}
use Rattle.store.proofs.FaultsTold.{by_error}
use Rattle.store.proofs.ActsInside.{books_kept, fails_inside, inside_from}
use Rattle.store.proofs.KnownKept.{known_if_err, known_from, known_kept}

abbrev pub Ready : State → Type 0
Ready s = IsTrue s.is_open → IsReady s.now

-- the read failed
pub acts_failed : (act : Act) (IsSo : Act → ℤ → List Act → Type 0) (known after : Option Known) (r : Result Reply Fault) (old new : State) → IsErr r
    → (HasCleanDisk new → (first : ℤ) (acts : List Act) → (IsTrue old.is_open → IsBooksOf first acts old.now) → IsActedInside first acts act r old new)
    → (HasCleanDisk new → Ready old → HasKnown known old → HasKnown after old) → (HasCleanDisk new → Ready old → KeepsCommit old new) → Acts act IsSo known after r old new
acts_failed act IsSo known after r old new is acted before kept = record {
  acted = λ clean kind first acts history books holds so. acted clean first acts books;
  knows = λ clean ready. known_if_err known after r old new is (before clean ready);
  kept = kept;
}

-- or it left everything as it was, and told more of the tables and of the acts
pub acts_from : (act : Act) (IsSo IsSoFar : Act → ℤ → List Act → Type 0) (known mid_known after : Option Known) (r : Result Reply Fault) (old mid new : State)
    → (HasCleanDisk mid → Ready old → IsUnchanged old mid) → (HasCleanDisk mid → Ready old → HasKnown known old → HasKnown mid_known old)
    → (HasCleanDisk mid → IsTrue (is_key_of act.key act.command) → (first : ℤ) (acts : List Act) → IsHistory first acts → IsBooksOf first acts old.now → HasKnown known old → IsSo act first acts → IsSoFar act first acts)
    → IsInsideOpen (Acts act IsSoFar mid_known after r) mid new → Acts act IsSo known after r old new
acts_from act IsSo IsSoFar known mid_known after r old mid new same read tells one =
    let was : HasCleanDisk new → HasCleanDisk mid = λ clean. omega (arith, clean, one.survives.clean) in
    record {
      acted = λ clean kind first acts history books holds so.
          let ready : Ready old = λ up. (books up).ready in
          let is = same (was clean) ready in
          let up = is.0.was_open in
          inside_from first acts act r old mid new is ((one.does is.0.is_open).acted clean kind first acts history (λ _. books_kept first acts old mid is (books up))
          (λ _. known_kept mid_known old mid is (read (was clean) ready (holds up))) (tells (was clean) kind first acts history (books up) (holds up) so));
      knows = λ clean ready.
          let is = same (was clean) ready in
          known_from known mid_known after r old mid new is (read (was clean) ready) ((one.does is.0.is_open).knows clean (λ _. subst IsReady (sym is.0.now_is) (ready is.0.was_open)));
      kept = λ clean ready.
          let is = same (was clean) ready in
          kept_then old mid new (kept_unchanged old mid is) ((one.does is.0.is_open).kept clean (λ _. subst IsReady (sym is.0.now_is) (ready is.0.was_open)));
    }

-- a read over an open connection failed
pub acts_unread : {X : Type 0} {P : Tables → X → Type 0} {e : TableFault} {act : Act} {IsSo : Act → ℤ → List Act → Type 0} {known after : Option Known} {r : Result Reply Fault} {old new : State}
    → IsErr r × IsErrAnd r (λ f. f ≡ fault_of e) → IsRead P old new (Err e) → (HasCleanDisk new → IsReady old.now → IsTrue old.is_open → HasKnown known old → HasKnown after old) → IsInsideOpen (Acts act IsSo known after r) old new
acts_unread {P = P} {e = e} {act = act} {IsSo = IsSo} {known = known} {after = after} {r = r} {old = old} {new = new} is read before = record {
  survives = read.survives;
  does = λ up. acts_failed act IsSo known after r old new is.0
      (λ clean first acts books. by_error r (fault_of e) is (λ (x : Result Reply Fault). IsActedInside first acts act x old new) (fails_inside first acts act e old new (read_fault P old new (Err e) read clean up first acts (books up))))
      (λ clean ready. before clean (ready up) up) (λ clean ready. (read.answers clean (ready up) up).0);
}

-- or it told more
pub acts_read : {X : Type 0} {P : Tables → X → Type 0} {x : X} {act : Act} {IsSo IsSoFar : Act → ℤ → List Act → Type 0} {known mid_known after : Option Known} {r : Result Reply Fault} {old mid new : State}
    → IsRead P old mid (Ok x) → IsInsideOpen (Acts act IsSoFar mid_known after r) mid new
    → (HasCleanDisk mid → IsReady old.now → IsTrue old.is_open → P (tables_in old.now.trees) x → HasKnown known old → HasKnown mid_known old)
    → (IsTrue (is_key_of act.key act.command) → (first : ℤ) (acts : List Act) → IsHistory first acts → IsBooksOf first acts old.now → HasKnown known old → P (tables_in old.now.trees) x → IsSo act first acts → IsSoFar act first acts)
    → IsInsideOpen (Acts act IsSo known after r) old new
acts_read {act = act} {IsSo = IsSo} {IsSoFar = IsSoFar} {known = known} {mid_known = mid_known} {after = after} {r = r} {old = old} {mid = mid} {new = new} read one learns tells = record {
  survives = inside_then old mid new read.survives one.survives;
  does = λ up. acts_from act IsSo IsSoFar known mid_known after r old mid new (λ clean ready. (read.answers clean (ready up) up).0) (λ clean ready. learns clean (ready up) up (read.answers clean (ready up) up).1)
      (λ clean kind first acts history books holds. tells kind first acts history books holds (read.answers clean books.ready up).1) one;
}

-- what is so of the acts tells more of them
pub acts_so : (act : Act) (IsSo IsSoFar : Act → ℤ → List Act → Type 0) (known after : Option Known) (r : Result Reply Fault) (old new : State) → ((first : ℤ) (acts : List Act) → IsSo act first acts → IsSoFar act first acts)
    → IsInsideOpen (Acts act IsSoFar known after r) old new → IsInsideOpen (Acts act IsSo known after r) old new
acts_so act IsSo IsSoFar known after r old new tells one = record {
  survives = one.survives;
  does = λ up. let acts = one.does up in record {
    acted = λ clean kind first list history books holds so. acts.acted clean kind first list history books holds (tells first list so);
    knows = acts.knows;
    kept = acts.kept;
  };
}

-- nothing is done
pub acts_none : (act : Act) (IsSo : Act → ℤ → List Act → Type 0) (known : Option Known) (fault : Fault) (s : State) → ((first : ℤ) (acts : List Act) → IsSo act first acts → IsActedInside first acts act (Err fault) s s)
    → IsInsideOpen (Acts act IsSo known known (Err fault)) s s
acts_none act IsSo known fault s tells = record {
  survives = inside_itself s;
  does = λ up. record {
    acted = λ clean kind first acts history books holds so. tells first acts so;
    knows = λ clean ready. known_if_err known known (Err fault) s s refl (λ h. h);
    kept = λ clean ready. kept_itself s;
  };
}
