-- Rows left out under some keys: the others are those of the look-up that has none under these.
use Rattle.rules.proofs.Words.{◌≡◌, Bool, true, false, ◌&&◌, not, List, [], ◌∷◌, refl, ap, sym, ◌∙◌, ◌||◌, if◌then◌else◌, Option, Some, None, find, filter, is_some, list_any, AreRows, AreOwn, no_two, changed, and_both, not_true, any_found, none_in_filter}

module _ {K R : Type 0} (same : K → K → Bool) (same_is : (a b : K) → same a b ≡ true → a ≡ b) (key : R → K) (gone : K → Bool) (row : K → Option R) where
  -- the look-up without the rows under these keys
  abbrev pub with_none : K → Option R
  with_none k = if gone k then None else row k

  abbrev left : List R → List R
  left rows = filter (λ r. not (gone (key r))) rows

  found_left : (k : K) → gone k ≡ false → (rows : List R) → find (λ r. same k (key r)) (left rows) ≡ find (λ r. same k (key r)) rows
  found_left k e [] = refl
  found_left k e (r ∷ rs) = elim (gone (key r)) as (λ b. gone (key r) ≡ b → find (λ r. same k (key r)) (if not b then r ∷ left rs else left rs) ≡ (if same k (key r) then Some r else find (λ r. same k (key r)) rs)) [
    | true ↦ λ t. elim (same k (key r)) as (λ b. same k (key r) ≡ b → find (λ r. same k (key r)) (left rs) ≡ (if b then Some r else find (λ r. same k (key r)) rs)) [
      | true ↦ λ f. let no : false ≡ true = sym e ∙ ap gone (same_is k (key r) f) ∙ t in cc
      | false ↦ λ f. found_left k e rs
    ] refl
    | false ↦ λ t. ap (λ x. if same k (key r) then Some r else x) (found_left k e rs)
  ] refl

  pub none_left : (k : K) → gone k ≡ true → (rows : List R) → find (λ r. same k (key r)) (left rows) ≡ None
  none_left k e [] = refl
  none_left k e (r ∷ rs) = elim (gone (key r)) as (λ b. gone (key r) ≡ b → find (λ r. same k (key r)) (if not b then r ∷ left rs else left rs) ≡ None) [
    | true ↦ λ t. none_left k e rs
    | false ↦ λ t. elim (same k (key r)) as (λ b. same k (key r) ≡ b → (if b then Some r else find (λ r. same k (key r)) (left rs)) ≡ None) [
      | true ↦ λ f. let no : true ≡ false = sym e ∙ ap gone (same_is k (key r) f) ∙ t in cc
      | false ↦ λ f. none_left k e rs
    ] refl
  ] refl

  own_left : (rows : List R) → AreOwn key (λ k. true) row rows → AreOwn key (λ k. true) with_none (left rows)
  own_left [] h = tt
  own_left (r ∷ rs) h = elim (gone (key r)) as (λ b. gone (key r) ≡ b → AreOwn key (λ k. true) with_none (if not b then r ∷ left rs else left rs)) [
    | true ↦ λ t. own_left rs h.2
    | false ↦ λ t. (refl, ap (λ b. if b then None else row (key r)) t ∙ h.1, own_left rs h.2)
  ] refl

  once_left : (rows : List R) → no_two (λ r s. same (key r) (key s)) rows ≡ true → no_two (λ r s. same (key r) (key s)) (left rows) ≡ true
  once_left [] e = refl
  once_left (r ∷ rs) e =
      let two = and_both (not (list_any (λ s. same (key r) (key s)) rs)) (no_two (λ r s. same (key r) (key s)) rs) e in
      elim (gone (key r)) as (λ b. no_two (λ r s. same (key r) (key s)) (if not b then r ∷ left rs else left rs) ≡ true) [
        | true ↦ once_left rs two.1
        | false ↦ (λ i. not (none_in_filter (λ s. same (key r) (key s)) (λ s. not (gone (key s))) rs (not_true _ two.0) i) && once_left rs two.1 i)
      ]

  pub rows_left : (needed : K → Bool) (rows : List R) → AreRows same key needed (λ k. true) row rows → AreRows same key needed (λ k. true) with_none (filter (λ r. not (gone (key r))) rows)
  rows_left needed rows are = record {
    found = λ k e. elim (gone k) as (λ b. gone k ≡ b → find (λ r. same k (key r)) (left rows) ≡ (if b then None else row k)) [
      | true ↦ λ t. none_left k t rows
      | false ↦ λ t. found_left k t rows ∙ are.found k e
    ] refl;
    own = own_left rows are.own;
    once = once_left rows are.once;
  }

  -- Dropping them makes that look-up of the one before

  any_dropped : (k : K) → gone k ≡ true → (rows : List R) → list_any (λ r. same k (key r)) (filter (λ r. gone (key r)) rows) ≡ list_any (λ r. same k (key r)) rows
  any_dropped k e [] = refl
  any_dropped k e (r ∷ rs) = elim (gone (key r)) as (λ b. gone (key r) ≡ b → list_any (λ r. same k (key r)) (if b then r ∷ filter (λ r. gone (key r)) rs else filter (λ r. gone (key r)) rs) ≡ same k (key r) || list_any (λ r. same k (key r)) rs) [
    | true ↦ λ t. ap (λ b. same k (key r) || b) (any_dropped k e rs)
    | false ↦ λ t. elim (same k (key r)) as (λ b. same k (key r) ≡ b → list_any (λ r. same k (key r)) (filter (λ r. gone (key r)) rs) ≡ b || list_any (λ r. same k (key r)) rs) [
      | true ↦ λ f. let no : true ≡ false = sym e ∙ ap gone (same_is k (key r) f) ∙ t in cc
      | false ↦ λ f. any_dropped k e rs
    ] refl
  ] refl

  none_dropped : (k : K) → gone k ≡ false → (rows : List R) → list_any (λ r. same k (key r)) (filter (λ r. gone (key r)) rows) ≡ false
  none_dropped k e [] = refl
  none_dropped k e (r ∷ rs) = elim (gone (key r)) as (λ b. gone (key r) ≡ b → list_any (λ r. same k (key r)) (if b then r ∷ filter (λ r. gone (key r)) rs else filter (λ r. gone (key r)) rs) ≡ false) [
    | true ↦ λ t. elim (same k (key r)) as (λ b. same k (key r) ≡ b → b || list_any (λ r. same k (key r)) (filter (λ r. gone (key r)) rs) ≡ false) [
      | true ↦ λ f. let no : false ≡ true = sym e ∙ ap gone (same_is k (key r) f) ∙ t in cc
      | false ↦ λ f. none_dropped k e rs
    ] refl
    | false ↦ λ t. none_dropped k e rs
  ] refl

  none_then : (x : Option R) → (if is_some x then None else x) ≡ None
  none_then None = refl
  none_then (Some r) = refl

  pub dropped_at : (rows : List R) (k : K) → (gone k ≡ true → find (λ r. same k (key r)) rows ≡ row k) → changed (λ r. same k (key r)) [] (filter (λ r. gone (key r)) rows) (row k) ≡ with_none k
  dropped_at rows k found = elim (gone k) as (λ b. gone k ≡ b → (if list_any (λ r. same k (key r)) (filter (λ r. gone (key r)) rows) then None else row k) ≡ (if b then None else row k)) [
    | true ↦ λ t.
        (λ i. if (any_dropped k t rows ∙ sym (any_found (λ r. same k (key r)) rows)) i then None else row k)
        ∙ (λ i. if is_some (found t i) then None else row k) ∙ none_then (row k)
    | false ↦ λ t. ap (λ b. if b then None else row k) (none_dropped k t rows)
  ] refl
