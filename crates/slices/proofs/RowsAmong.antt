-- Of the rows that are sought, those that are sought by less.
use Rattle.slices.proofs.Words.{◌≡◌, Bool, true, false, not, inl, inr, List, [], ◌∷◌, filter, find, Option, Some, refl, sym, ap, subst, ◌∙◌, if◌then◌else◌, list_any, list_all, cases_Bool, IsSame}
use Rattle.table_words.specs.Found.{AreRows, no_two}
use Rattle.slices.proofs.RowsChanged.{and_both, and_true, not_true, of_false, or_none, or_false, false_from, clash}

module _ {K R : Type 0} (same : K → K → Bool) (key : R → K) (exact : IsSame same) (wanted less : K → Bool) (within : (k : K) → less k ≡ true → wanted k ≡ true) (look : K → Option R) where
  abbrev kept : R → Bool
  kept r = less (key r)

  abbrev at : K → R → Bool
  at k x = same k (key x)

  goes : (k : K) (r : R) → less k ≡ true → kept r ≡ false → at k r ≡ false
  goes k r own gone = false_from (at k r) (λ e. clash (less k) own (subst (λ c. less c ≡ false) (sym (exact k (key r) e)) gone))

  found_among : (k : K) (rows : List R) → less k ≡ true → find (at k) (filter kept rows) ≡ find (at k) rows
  found_among k [] own = refl
  found_among k (r ∷ rs) own = let more = found_among k rs own in elim (cases_Bool (kept r)) [
    | inl e ↦ rw e (ap (λ o. if at k r then Some r else o) more)
    | inr e ↦ rw (e, goes k r own e) more
  ]

  all_among : (rows : List R) → list_all kept (filter kept rows) ≡ true
  all_among [] = refl
  all_among (r ∷ rs) = let more = all_among rs in elim (cases_Bool (kept r)) [
    | inl e ↦ rw e (and_true (kept r) (list_all kept (filter kept rs)) e more)
    | inr e ↦ rw e more
  ]

  abbrev same_row : R → R → Bool
  same_row a b = same (key a) (key b)

  none_among : (a : R) (rows : List R) → list_any (same_row a) rows ≡ false → list_any (same_row a) (filter kept rows) ≡ false
  none_among a [] h = refl
  none_among a (r ∷ rs) h =
      let two = or_none (same_row a r) (list_any (same_row a) rs) h in
      let more = none_among a rs two.1 in
      elim (cases_Bool (kept r)) [
        | inl e ↦ rw e (or_false (same_row a r) (list_any (same_row a) (filter kept rs)) two.0 more)
        | inr e ↦ rw e more
      ]

  once_among : (rows : List R) → no_two same_row rows ≡ true → no_two same_row (filter kept rows) ≡ true
  once_among [] h = refl
  once_among (r ∷ rs) h =
      let two = and_both (not (list_any (same_row r) rs)) (no_two same_row rs) h in
      let more = once_among rs two.1 in
      elim (cases_Bool (kept r)) [
        | inl e ↦ rw e (and_true (not (list_any (same_row r) (filter kept rs))) (no_two same_row (filter kept rs)) (of_false _ (none_among r rs (not_true _ two.0))) more)
        | inr e ↦ rw e more
      ]

  pub rows_among : (rows : List R) → AreRows same key wanted look rows → AreRows same key less look (filter kept rows)
  rows_among rows are = record {
    found = λ k own. found_among k rows own ∙ are.found k (within k own);
    only = all_among rows;
    once = once_among rows are.once;
  }
