-- What is known of the rows of a table, with the rows of a change, is so of the tables that the change leaves.
use Rattle.slices.proofs.Words.{◌≡◌, Bool, true, false, ◌&&◌, inl, inr, List, [], ◌∷◌, Option, Some, None, refl, sym, ap, subst, ◌∙◌, if◌then◌else◌, IfSome, is_eq, Ordering, cases_Bool, Tables, IsSame, each_written, RowMap, rows_at, without_row, with_put, each_changed, ChangesBy, last_set, SetsBy, Remembers}
use Rattle.table_words.specs.Found.{AreRows}
use Rattle.slices.proofs.RowsChanged.{put_are, dropped_are, others_are}

module _ {B Q K R : Type 0} (cmp : Q → Q → Ordering) (key_of : B → Q) (same_by : B → B → Bool) (told : (x y : B) → is_eq (cmp (key_of y) (key_of x)) ≡ same_by x y)
    (same : K → K → Bool) (key : R → K) (itself : (k : K) → same k k ≡ true) (exact : IsSame same)
    (get : Tables → K → Option R) (wanted : B → K → Bool) (owner : R → B) (owns : (by : B) (r : R) → wanted by (key r) ≡ same_by by (owner r)) where
  -- the rows that are sought by this are these
  abbrev pub AreAt : Tables → B → List R → Type 0
  AreAt t by rows = AreRows same key (wanted by) (get t) rows

  abbrev pub put_row : R → List R → List R
  put_row = with_put (λ x y. same (key x) (key y))

  abbrev pub drop_row : R → List R → List R
  drop_row = without_row (λ x y. same (key x) (key y))

  abbrev pub at_owner : R → Q
  at_owner r = key_of (owner r)

  -- tables that are the same there have the same rows
  pub known_as : (t u : Tables) → get t ≡ get u → (m : RowMap Q R) → Remembers cmp key_of (AreAt t) m → Remembers cmp key_of (AreAt u) m
  known_as t u is m known = subst (λ (f : K → Option R). Remembers cmp key_of (λ by rows. AreRows same key (wanted by) f rows) m) is known

  module _ (change : R → List R → List R) (write : R → Tables → Tables)
      (step : (r : R) (t : Tables) (at : B) (rows : List R) → AreAt t at rows → AreAt (write r t) at (if same_by at (owner r) then change r rows else rows)) where
    each_are : (rows : List R) (t : Tables) (at : B) (before : List R) → AreAt t at before → AreAt (each_written write rows t) at (each_changed cmp at_owner change rows (key_of at) before)
    each_are [] t at before h = h
    each_are (r ∷ rs) t at before h =
        each_are rs (write r t) at (if is_eq (cmp (at_owner r) (key_of at)) then change r before else before)
        (subst (λ b. AreAt (write r t) at (if b then change r before else before)) (sym (told at (owner r))) (step r t at before h))

    known_changed : (rows : List R) (t : Tables) (old new : RowMap Q R) → ChangesBy cmp at_owner change rows old new → Remembers cmp key_of (AreAt t) old → Remembers cmp key_of (AreAt (each_written write rows t)) new
    known_changed rows t old new changes known at = told_of (rows_at cmp new (key_of at)) (changes (key_of at))
      where
        told_of : (x : Option (List R)) → IfSome x (λ found. (before : List R) × (rows_at cmp old (key_of at) ≡ Some before) × (found ≡ each_changed cmp at_owner change rows (key_of at) before)) → IfSome x (AreAt (each_written write rows t) at)
        told_of None h = tt
        told_of (Some found) h =
            let was : AreAt t at h.0 = subst (λ y. IfSome y (AreAt t at)) h.1 (known at) in
            subst (AreAt (each_written write rows t) at) (sym h.2) (each_are rows t at h.0 was)

  put_step : (write : R → Tables → Tables) → ((r : R) (t : Tables) → get (write r t) ≡ (λ k. if same k (key r) then Some r else get t k)) → (r : R) (t : Tables) (at : B) (rows : List R) → AreAt t at rows → AreAt (write r t) at (if same_by at (owner r) then put_row r rows else rows)
  put_step write puts r t at rows are = subst (λ (f : K → Option R). AreRows same key (wanted at) f (if same_by at (owner r) then put_row r rows else rows)) (sym (puts r t)) (elim (cases_Bool (same_by at (owner r))) [
    | inl e ↦ rw e (put_are same key itself exact (wanted at) (get t) r rows are (owns at r ∙ e))
    | inr e ↦ rw e (others_are same key itself exact (wanted at) (get t) r rows are (owns at r ∙ e) (Some r))
  ])

  drop_step : (write : R → Tables → Tables) → ((r : R) (t : Tables) → get (write r t) ≡ (λ k. if same k (key r) then None else get t k)) → (r : R) (t : Tables) (at : B) (rows : List R) → AreAt t at rows → AreAt (write r t) at (if same_by at (owner r) then drop_row r rows else rows)
  drop_step write drops r t at rows are = subst (λ (f : K → Option R). AreRows same key (wanted at) f (if same_by at (owner r) then drop_row r rows else rows)) (sym (drops r t)) (elim (cases_Bool (same_by at (owner r))) [
    | inl e ↦ rw e (dropped_are same key itself exact (wanted at) (get t) r rows are)
    | inr e ↦ rw e (others_are same key itself exact (wanted at) (get t) r rows are (owns at r ∙ e) None)
  ])

  -- rows are put, in what is known too
  pub known_put : (write : R → Tables → Tables) → ((r : R) (t : Tables) → get (write r t) ≡ (λ k. if same k (key r) then Some r else get t k)) → (rows : List R) (t : Tables) (old new : RowMap Q R)
      → ChangesBy cmp at_owner put_row rows old new → Remembers cmp key_of (AreAt t) old → Remembers cmp key_of (AreAt (each_written write rows t)) new
  known_put write puts = known_changed put_row write (put_step write puts)

  -- and so where they are dropped
  pub known_dropped : (write : R → Tables → Tables) → ((r : R) (t : Tables) → get (write r t) ≡ (λ k. if same k (key r) then None else get t k)) → (rows : List R) (t : Tables) (old new : RowMap Q R)
      → ChangesBy cmp at_owner drop_row rows old new → Remembers cmp key_of (AreAt t) old → Remembers cmp key_of (AreAt (each_written write rows t)) new
  known_dropped write drops = known_changed drop_row write (drop_step write drops)

  -- where rows are sought by their whole key
  module _ (whole : (by : B) (r : R) → same_by by (owner r) ≡ true → (k : K) → wanted by k ≡ true → same k (key r) ≡ true) where
    -- a row that is put is all that is sought by its key
    set_are : (r : R) (t : Tables) (at : B) → same_by at (owner r) ≡ true → AreRows same key (wanted at) (λ k. if same k (key r) then Some r else get t k) (r ∷ [])
    set_are r t at own = record {
      found = λ k w. let e = whole at r own k w in ap (λ b. if b then Some r else None) e ∙ sym (ap (λ b. if b then Some r else get t k) e);
      only = ap (λ b. b && true) (owns at r ∙ own);
      once = refl;
    }

    module _ (write : R → Tables → Tables) (puts : (r : R) (t : Tables) → get (write r t) ≡ (λ k. if same k (key r) then Some r else get t k)) where
      set_step : (r : R) (t : Tables) (at : B) (before : Option (List R)) → IfSome before (AreAt t at) → IfSome (if same_by at (owner r) then Some (r ∷ []) else before) (AreAt (write r t) at)
      set_step r t at before are = subst (λ (f : K → Option R). IfSome (if same_by at (owner r) then Some (r ∷ []) else before) (AreRows same key (wanted at) f)) (sym (puts r t)) (elim (cases_Bool (same_by at (owner r))) [
        | inl e ↦ rw e (set_are r t at e)
        | inr e ↦ rw e (others before are e)
      ])
        where
          others : (x : Option (List R)) → IfSome x (AreAt t at) → same_by at (owner r) ≡ false → IfSome x (AreRows same key (wanted at) (λ k. if same k (key r) then Some r else get t k))
          others None h e = tt
          others (Some rows) h e = others_are same key itself exact (wanted at) (get t) r rows h (owns at r ∙ e) (Some r)

      each_set : (rows : List R) (t : Tables) (at : B) (before : Option (List R)) → IfSome before (AreAt t at) → IfSome (last_set cmp at_owner rows (key_of at) before) (AreAt (each_written write rows t) at)
      each_set [] t at before h = h
      each_set (r ∷ rs) t at before h =
          each_set rs (write r t) at (if is_eq (cmp (at_owner r) (key_of at)) then Some (r ∷ []) else before)
          (subst (λ b. IfSome (if b then Some (r ∷ []) else before) (AreAt (write r t) at)) (sym (told at (owner r))) (set_step r t at before h))

      -- rows are put, and each is all that is known by its key
      pub known_set : (rows : List R) (t : Tables) (old new : RowMap Q R) → SetsBy cmp at_owner rows old new → Remembers cmp key_of (AreAt t) old → Remembers cmp key_of (AreAt (each_written write rows t)) new
      known_set rows t old new sets known at = told_of (rows_at cmp new (key_of at)) (sets (key_of at))
        where
          told_of : (x : Option (List R)) → IfSome x (λ found. last_set cmp at_owner rows (key_of at) (rows_at cmp old (key_of at)) ≡ Some found) → IfSome x (AreAt (each_written write rows t) at)
          told_of None h = tt
          told_of (Some found) h = subst (λ y. IfSome y (AreAt (each_written write rows t) at)) h (each_set rows t at (rows_at cmp old (key_of at)) (known at))
