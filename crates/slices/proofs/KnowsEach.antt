-- Rows of a table that are known one by one.
use Rattle.slices.proofs.Words.{◌≡◌, Bool, true, ◌&&◌, ◌⊎◌, inl, inr, List, [], ◌∷◌, refl, ap, sym, subst, ◌∙◌, if◌then◌else◌, find, Option, Some, None, IfSome, AllByRecursion, is_eq, Ordering, IsSame, AreOwn, RowMap, rows_at, LearnsAt, Remembers, IsAlone, LearnsEach}
use Rattle.table_words.specs.Found.{AreRows}

module _ {K R : Type 0} (cmp : K → K → Ordering) (own : R → K) where
  -- with the rows that are left to come, what is known will be what all of them make of what was known before
  abbrev pub Learning : List R → List R → RowMap K R → RowMap K R → Type 0
  Learning all rest old mid = (new : RowMap K R) → LearnsEach cmp own rest mid new → LearnsEach cmp own all old new

  learns_first : (r : R) (rest : List R) (old mid new : RowMap K R) → LearnsAt cmp (own r) (r ∷ []) old mid → LearnsEach cmp own rest mid new → LearnsEach cmp own (r ∷ rest) old new
  learns_first r rest old mid new at learns q = step (rows_at cmp new q) (learns q)
    where
      earlier : (found : List R) → ((is_eq (cmp (own r) q) ≡ true) × (found ≡ r ∷ [])) ⊎ (rows_at cmp old q ≡ Some found) → IsAlone cmp own (r ∷ rest) q found ⊎ (rows_at cmp old q ≡ Some found)
      earlier found (inl here) = inl (inl here)
      earlier found (inr was) = inr was

      step : (x : Option (List R)) → IfSome x (λ found. IsAlone cmp own rest q found ⊎ (rows_at cmp mid q ≡ Some found)) → IfSome x (λ found. IsAlone cmp own (r ∷ rest) q found ⊎ (rows_at cmp old q ≡ Some found))
      step None h = tt
      step (Some found) (inl later) = inl (inr later)
      step (Some found) (inr was) = earlier found (subst (λ y. IfSome y (λ rows. ((is_eq (cmp (own r) q) ≡ true) × (rows ≡ r ∷ [])) ⊎ (rows_at cmp old q ≡ Some rows))) was (at q))

  pub learning_next : (all left rest : List R) (r : R) (old mid next : RowMap K R) → left ≡ r ∷ rest → LearnsAt cmp (own r) (r ∷ []) mid next → Learning all left old mid → Learning all rest old next
  learning_next all left rest r old mid next is at so_far new learns = so_far new (subst (λ (l : List R). LearnsEach cmp own l mid new) (sym is) (learns_first r rest mid next new at learns))

  pub all_learned : (all : List R) (old mid : RowMap K R) → Learning all [] old mid → LearnsEach cmp own all old mid
  all_learned all old mid so_far = so_far mid (λ q. same (rows_at cmp mid q))
    where
      same : (x : Option (List R)) → IfSome x (λ found. ⊥ ⊎ (x ≡ Some found))
      same None = tt
      same (Some found) = inr refl

-- what is known of the rows that are sought is so
module _ {B K R : Type 0} (cmp : K → K → Ordering) (key : B → K) (one : (x y : B) → is_eq (cmp (key y) (key x)) ≡ true → x ≡ y) (are : B → List R → Type 0) where
  -- where these are what is sought by this
  pub remembers_at : (by : B) (rows : List R) (old new : RowMap K R) → LearnsAt cmp (key by) rows old new → are by rows → Remembers cmp key are old → Remembers cmp key are new
  remembers_at by rows old new learned told known at = step (rows_at cmp new (key at)) (learned (key at))
    where
      step : (x : Option (List R)) → IfSome x (λ found. ((is_eq (cmp (key by) (key at)) ≡ true) × (found ≡ rows)) ⊎ (rows_at cmp old (key at) ≡ Some found)) → IfSome x (are at)
      step None h = tt
      step (Some found) (inl here) = subst (are at) (sym here.1) (subst (λ b. are b rows) (sym (one at by here.0)) told)
      step (Some found) (inr was) = subst (λ y. IfSome y (are at)) was (known at)

  -- where each of these alone is what is sought by what it has
  are_alone : (of_row : R → B) (rows : List R) (at : B) (found : List R) → AllByRecursion (λ r. are (of_row r) (r ∷ [])) rows → IsAlone cmp (λ r. key (of_row r)) rows (key at) found → are at found
  are_alone of_row [] at found all alone = absurd alone
  are_alone of_row (r ∷ rows) at found all (inl here) = subst (are at) (sym here.1) (subst (λ b. are b (r ∷ [])) (sym (one at (of_row r) here.0)) all.0)
  are_alone of_row (r ∷ rows) at found all (inr later) = are_alone of_row rows at found all.1 later

  pub remembers_each : (of_row : R → B) (rows : List R) (old new : RowMap K R) → LearnsEach cmp (λ r. key (of_row r)) rows old new → AllByRecursion (λ r. are (of_row r) (r ∷ [])) rows → Remembers cmp key are old → Remembers cmp key are new
  remembers_each of_row rows old new learned all known at = step (rows_at cmp new (key at)) (learned (key at))
    where
      step : (x : Option (List R)) → IfSome x (λ found. IsAlone cmp (λ r. key (of_row r)) rows (key at) found ⊎ (rows_at cmp old (key at) ≡ Some found)) → IfSome x (are at)
      step None h = tt
      step (Some found) (inl alone) = are_alone of_row rows at found all alone
      step (Some found) (inr was) = subst (λ y. IfSome y (are at)) was (known at)

-- a row of a table alone is what is sought by its key
module _ {K R : Type 0} (same : K → K → Bool) (key : R → K) (exact : IsSame same) (itself : (k : K) → same k k ≡ true) (look : K → Option R) where
  row_alone : (r : R) → look (key r) ≡ Some r → AreRows same key (same (key r)) look (r ∷ [])
  row_alone r is = record {
    found = λ k e. subst (λ c. find (λ x. same c (key x)) (r ∷ []) ≡ look c) (exact (key r) k e) (ap (λ b. if b then Some r else None) (itself (key r)) ∙ sym is);
    only = ap (λ b. b && true) (itself (key r));
    once = refl;
  }

  pub rows_alone : (allowed : K → Bool) (rows : List R) → AreOwn key allowed look rows → AllByRecursion (λ r. AreRows same key (same (key r)) look (r ∷ [])) rows
  rows_alone allowed [] own = tt
  rows_alone allowed (r ∷ rows) own = (row_alone r own.1, rows_alone allowed rows own.2)
