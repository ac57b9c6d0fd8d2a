-- Rows without that under one key are the rows of the look-up that has none there.
use Rattle.rules.proofs.Words.{◌≡◌, Bool, true, false, not, List, [], ◌∷◌, refl, ap, sym, ◌∙◌, if◌then◌else◌, Option, Some, None, find, filter, list_any, AreRows, AreOwn, no_two, and_both, or_none, not_true}
use Rattle.rules.proofs.rows.AfterRows.{rows_after}
use Rattle.rules.proofs.rows.AddedRows.{not_found}

module _ {K R : Type 0} (same : K → K → Bool) (same_is : (a b : K) → same a b ≡ true → a ≡ b) (itself : (a : K) → same a a ≡ true) (turned : (a b : K) → same a b ≡ same b a) (key : R → K) (needed : K → Bool) (row : K → Option R)
    (old : R) where
  -- the look-up without the row
  abbrev pub without_row : K → Option R
  without_row k = if same k (key old) then None else row k

  abbrev with_old : K → Option R
  with_old k = if same k (key old) then Some old else row k

  own_behind : (rows : List R) → list_any (λ r. same (key old) (key r)) rows ≡ false → AreOwn key (λ k. true) with_old rows → AreOwn key (λ k. true) without_row rows
  own_behind [] e h = tt
  own_behind (r ∷ rs) e h =
      let two = or_none (same (key old) (key r)) (list_any (λ r. same (key old) (key r)) rs) e in
      let no : same (key r) (key old) ≡ false = turned (key r) (key old) ∙ two.0 in
      (refl, ap (λ b. if b then None else row (key r)) no ∙ sym (ap (λ b. if b then Some old else row (key r)) no) ∙ h.1, own_behind rs two.1 h.2)

  -- behind a row the others are those of the look-up without it
  behind : (rows : List R) → AreRows same key needed (λ k. true) with_old (old ∷ rows) → AreRows same key needed (λ k. true) without_row rows
  behind rows are =
      let two = and_both (not (list_any (λ r. same (key old) (key r)) rows)) (no_two (λ r s. same (key r) (key s)) rows) are.once in
      let none : list_any (λ r. same (key old) (key r)) rows ≡ false = not_true _ two.0 in
      record {
        found = λ k e. elim (same k (key old)) as (λ b. same k (key old) ≡ b → (if b then Some old else find (λ r. same k (key r)) rows) ≡ (if b then Some old else row k) → find (λ r. same k (key r)) rows ≡ (if b then None else row k)) [
          | true ↦ λ t h. ap (λ (x : K). find (λ r. same x (key r)) rows) (same_is k (key old) t) ∙ not_found (λ r. same (key old) (key r)) rows none
          | false ↦ λ t h. h
        ] refl (are.found k e);
        own = own_behind rows none are.own.2;
        once = two.1;
      }

  pub rows_without : (rows : List R) → AreRows same key needed (λ k. true) row rows → AreRows same key needed (λ k. true) without_row (filter (λ r. not (same (key old) (key r))) rows)
  rows_without rows are = behind (filter (λ r. not (same (key old) (key r))) rows) (rows_after same same_is itself turned key needed row old rows are)
