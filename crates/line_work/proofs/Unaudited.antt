-- What is left where the books were not audited.
use Rattle.line_work.proofs.Words.{◌≡◌, ◌⊎◌, inl, inr, List, ap, arith, subst, sym, ℤ, Result, Err, IfErr, StoreGhosts as Ghosts, Held, state, HasCleanDisk, Act, IsHistory, Leftover, Connection, StoreOf, Found, HasSchema, IsOfNone, AreRowsAt, IsCleanLeft, BooksFault, IsLeftAlone, AreNotRaised, Fault, fault_of_books, IsCleanBefore, of_books, foreign_there, IsUnaudited}
use Rattle.store.specs.declared.fault.Fault.TheVariants as books

module _ {S : Type 0} (g : Ghosts S) (old : Held S) where
  alone_clean : (left : Leftover S) → IsLeftAlone g old left → IsCleanBefore g old left
  alone_clean (Connection conn) (inl same) clean = subst (λ h. HasCleanDisk (state g h)) same clean
  alone_clean (Connection conn) (inr alone) clean = omega (arith, clean, alone.clean)
  alone_clean (StoreOf s) closed clean = omega (arith, clean, closed.clean)

  -- as an audit tells it
  pub unaudited : {X : Type 0} (left : Leftover S) (end : Result X BooksFault) (why : BooksFault) (fault : Fault) → end ≡ Err why → fault ≡ fault_of_books why → IsLeftAlone g old left
      → (IsCleanLeft g left → IfErr end (λ e. e ≡ books.Foreign → IsOfNone (state g old).now.schema ⊎ AreNotRaised (state g old)))
      → (IsCleanLeft g left → (found : Found) → HasSchema found (state g old).now.schema → (first : ℤ) (acts : List Act) → IsHistory first acts → AreRowsAt found first acts (state g old).committed.trees → IfErr end (λ e. e ≡ books.Store))
      → IsUnaudited g old left fault
  unaudited {X} left end why fault is is_fault alone foreign known =
      subst (λ f. IsUnaudited g old left f) (sym is_fault) (
      record {
        kept = alone;
        clean = alone_clean left alone;
        cause = of_books why;
        foreign = λ clean e. subst (λ (r : Result X BooksFault). IfErr r (λ w. w ≡ books.Foreign → IsOfNone (state g old).now.schema ⊎ AreNotRaised (state g old))) is (foreign clean) (foreign_there why e);
        known = λ clean found schema first acts history rows. ap fault_of_books (subst (λ (r : Result X BooksFault). IfErr r (λ w. w ≡ books.Store)) is (known clean found schema first acts history rows));
      }
      )
