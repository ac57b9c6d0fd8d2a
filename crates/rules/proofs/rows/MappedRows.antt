-- Rows each changed under its key are the rows of the look-up that is changed likewise.
use Rattle.rules.proofs.Words.{◌≡◌, Bool, true, false, not, ◌&&◌, List, [], ◌∷◌, refl, ap, ◌∙◌, ◌||◌, if◌then◌else◌, Option, Some, find, map, option_map, list_any, AreRows, AreOwn, no_two}

module _ {K R : Type 0} (same : K → K → Bool) (key : R → K) (f : R → R) (keeps : (r : R) → key (f r) ≡ key r) where
  pub found_mapped : (k : K) (rows : List R) → find (λ r. same k (key r)) (map f rows) ≡ option_map f (find (λ r. same k (key r)) rows)
  found_mapped k [] = refl
  found_mapped k (r ∷ rs) =
      ap (λ x. if same k x then Some (f r) else find (λ r. same k (key r)) (map f rs)) (keeps r)
      ∙ elim (same k (key r)) as (λ b. (if b then Some (f r) else find (λ r. same k (key r)) (map f rs)) ≡ option_map f (if b then Some r else find (λ r. same k (key r)) rs)) [
        | true ↦ refl
        | false ↦ found_mapped k rs
      ]

  any_mapped : (k : K) (rows : List R) → list_any (λ r. same k (key r)) (map f rows) ≡ list_any (λ r. same k (key r)) rows
  any_mapped k [] = refl
  any_mapped k (r ∷ rs) = λ i. same k (keeps r i) || any_mapped k rs i

  once_mapped : (rows : List R) → no_two (λ r s. same (key r) (key s)) (map f rows) ≡ no_two (λ r s. same (key r) (key s)) rows
  once_mapped [] = refl
  once_mapped (r ∷ rs) = (λ i. not (list_any (λ s. same (keeps r i) (key s)) (map f rs)) && once_mapped rs i) ∙ ap (λ b. not b && no_two (λ r s. same (key r) (key s)) rs) (any_mapped (key r) rs)

  module _ (needed allowed : K → Bool) (row : K → Option R) where
    own_mapped : (rows : List R) → AreOwn key allowed row rows → AreOwn key allowed (λ k. option_map f (row k)) (map f rows)
    own_mapped [] h = tt
    own_mapped (r ∷ rs) h = (ap allowed (keeps r) ∙ h.0, ap (λ k. option_map f (row k)) (keeps r) ∙ ap (option_map f) h.1, own_mapped rs h.2)

    pub rows_mapped : (rows : List R) → AreRows same key needed allowed row rows → AreRows same key needed allowed (λ k. option_map f (row k)) (map f rows)
    rows_mapped rows are = record {
      found = λ k e. found_mapped k rows ∙ ap (option_map f) (are.found k e);
      own = own_mapped rows are.own;
      once = once_mapped rows ∙ are.once;
    }
