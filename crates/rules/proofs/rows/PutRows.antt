-- Rows put over others, each in the place of that under its key, are the rows of the look-up that has them.
use Rattle.rules.proofs.Words.{◌≡◌, Bool, true, false, not, List, [], ◌∷◌, ◌++◌, refl, ap, sym, if◌then◌else◌, Option, Some, None, find, filter, is_some, list_any, AreRows, no_two, unless_put, or_first, or_later, any_found}
use Rattle.rules.proofs.rows.AfterRows.{loosened}
use Rattle.rules.proofs.rows.AddedRows.{all_added}
use Rattle.rules.proofs.rows.DroppedRows.{rows_left, none_left}

module _ {K R : Type 0} (same : K → K → Bool) (same_is : (a b : K) → same a b ≡ true → a ≡ b) (itself : (a : K) → same a a ≡ true) (turned : (a b : K) → same a b ≡ same b a) (key : R → K) (needed : K → Bool) (row : K → Option R)
    (puts : List R) where
  -- the look-up with the rows put
  abbrev pub with_puts : K → Option R
  with_puts k = unless_put (find (λ r. same k (key r)) puts) false (row k)

  abbrev is_put : K → Bool
  is_put k = list_any (λ p. same k (key p)) puts

  abbrev others : List R → List R
  others rows = filter (λ r. not (is_put (key r))) rows

  abbrev NewTo : List R → List R → Type 0
  NewTo rows [] = Unit {0}
  NewTo rows (n ∷ ns) = (find (λ r. same (key n) (key r)) rows ≡ None) × NewTo rows ns

  all_new : (rows ns : List R) → ((k : K) → list_any (λ p. same k (key p)) ns ≡ true → is_put k ≡ true) → NewTo (others rows) ns
  all_new rows [] h = tt
  all_new rows (n ∷ ns) h = (none_left same same_is key is_put row (key n) (h (key n) (or_first (same (key n) (key n)) _ (itself (key n)))) rows, all_new rows ns (λ k e. h k (or_later (same k (key n)) _ e)))

  over_same : (k : K) → unless_put (find (λ r. same k (key r)) puts) false (if is_put k then None else row k) ≡ with_puts k
  over_same k = by_found (find (λ r. same k (key r)) puts) (is_put k) (any_found (λ r. same k (key r)) puts)
    where
      by_found : (x : Option R) (b : Bool) → is_some x ≡ b → unless_put x false (if b then None else row k) ≡ unless_put x false (row k)
      by_found (Some r) b e = refl
      by_found None b e = ap (λ t. if t then None else row k) (sym e)

  pub rows_over : (rows : List R) → no_two (λ r s. same (key r) (key s)) puts ≡ true → AreRows same key needed (λ k. true) row rows
      → AreRows same key needed (λ k. true) with_puts (puts ++ filter (λ r. not (list_any (λ p. same (key r) (key p)) puts)) rows)
  rows_over rows once are =
      loosened same key needed needed (λ k. true) (λ k. true) (λ k. unless_put (find (λ r. same k (key r)) puts) false (if is_put k then None else row k)) with_puts (puts ++ others rows) (λ k e. e) (λ k e. e) over_same
      (all_added same same_is itself turned key needed (λ k. if is_put k then None else row k) puts (others rows) once (all_new rows puts (λ k e. e)) (rows_left same same_is key is_put row needed rows are))
