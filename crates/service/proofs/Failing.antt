-- What is left where no work was begun.
use Rattle.service.proofs.Words.{◌≡◌, ◌≢◌, ◌⊎◌, ◌↔◌, inl, inr, List, ap, arith, refl, subst, sym, ℤ, Ghosts, Held, state, HasCleanDisk, Opens, IsLive, Act, IsHistory, schema_0, Leftover, Connection, StoreOf, Found, HasSchema, IsOfNone, Tells, AreRowsAt, IsForeignWithin, IsCleanLeft, IsLeftOver, IsLeftUnfilled, BooksFault, Fault, Foreign, fault_of_books, IsOfBooks, IsCleanBefore, IsUnmade, IsUnopened}
use Rattle.store.specs.declared.fault.Fault.TheVariants as books

pub of_books : (why : BooksFault) → IsOfBooks (fault_of_books why)
of_books books.Foreign = inr refl
of_books books.Store = inl refl
of_books (books.Refused why) = inl refl

pub foreign_there : (why : BooksFault) → fault_of_books why ≡ Foreign → why ≡ books.Foreign
foreign_there books.Foreign e = refl
foreign_there books.Store e = absurd cc
foreign_there (books.Refused why) e = absurd cc

module _ {S : Type 0} (g : Ghosts S) (old : Held S) where
  over_clean : (left : Leftover S) → IsLeftOver g old left → IsCleanBefore g old left
  over_clean (Connection conn) (inl same) clean = subst (λ h. HasCleanDisk (state g h)) same clean
  over_clean (Connection conn) (inr again) clean = omega (arith, clean, again.clean)
  over_clean (StoreOf s) closed clean = omega (arith, clean, closed.clean)

  unfilled_clean : (day : ℤ) (left : Leftover S) → IsLeftUnfilled g old day left → IsCleanBefore g old left
  unfilled_clean day (Connection conn) unfilled clean = omega (arith, clean, unfilled.survives.clean)
  unfilled_clean day (StoreOf s) none clean = absurd none

  -- as the store tells it
  module _ (left kept : Leftover S) (why : BooksFault) (fault : Fault) (is_left : kept ≡ left) (is_fault : fault ≡ fault_of_books why) where
    pub unmade : (day : ℤ) → IsLeftUnfilled g old day left → (why ≡ books.Foreign) ↔ ((state g old).now.schema ≢ schema_0) → (why ≡ books.Foreign → left ≡ Connection old) → IsUnmade g old day kept fault
    unmade day unfilled foreign unchanged =
        subst (λ l. IsUnmade g old day l fault) (sym is_left) (subst (λ f. IsUnmade g old day left f) (sym is_fault) (
        record {
          kept = inr unfilled;
          clean = unfilled_clean day left unfilled;
          cause = of_books why;
          foreign = λ outside. (λ e. foreign.0 (foreign_there why e), λ other. ap fault_of_books (foreign.1 other));
          unchanged = λ e. unchanged (foreign_there why e);
        }
        ))

    pub unopened : IsLeftOver g old left → (IsCleanLeft g left → why ≡ books.Foreign → IsOfNone (state g old).now.schema ⊎ IsForeignWithin (state g old))
        → (IsCleanLeft g left → (found : Found) → HasSchema found (state g old).now.schema → (first : ℤ) (acts : List Act) → IsHistory first acts → AreRowsAt found first acts (state g old).committed.trees → why ≡ books.Store)
        → (IsCleanLeft g left → Opens (state g old) → IsLive (state g old) → (found : Found) → Tells found (state g old).committed.trees → (first : ℤ) (acts : List Act) → IsHistory first acts → AreRowsAt found first acts (state g old).committed.trees → why ≡ books.Store)
        → (IsOfNone (state g old).now.schema → left ≡ Connection old) → IsUnopened g old kept fault
    unopened over foreign known again unchanged =
        subst (λ l. IsUnopened g old l fault) (sym is_left) (subst (λ f. IsUnopened g old left f) (sym is_fault) (
        record {
          kept = over;
          clean = over_clean left over;
          cause = of_books why;
          foreign = λ clean e. foreign clean (foreign_there why e);
          known = λ clean found schema first acts history rows. ap fault_of_books (known clean found schema first acts history rows);
          again = λ clean opens live found tells first acts history rows. ap fault_of_books (again clean opens live found tells first acts history rows);
          unchanged = unchanged;
        }
        ))
