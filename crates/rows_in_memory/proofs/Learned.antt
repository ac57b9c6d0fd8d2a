-- What is known of rows stays so: as they are learned, and as some are forgotten.
use Rattle.rows_in_memory.proofs.Words.{◌≡◌, false, ◌⊎◌, inl, inr, List, filter, sym, subst, Option, Some, None, IfSome, list_any, is_eq, Ordering, RowMap, rows_at, KnowsNone, ForgetsBy, KnowsAll, Remembers}

module _ {B K R : Type 0} (cmp : K → K → Ordering) (key : B → K) (are : B → List R → Type 0) where
  -- what is left is so
  pub remembers_left : (own : R → K) (rows : List R) (old new : RowMap K R) → ForgetsBy cmp own rows old new → Remembers cmp key are old → Remembers cmp key are new
  remembers_left own rows old new forgets known at = step (rows_at cmp new (key at)) (forgets (key at))
    where
      step : (x : Option (List R)) → IfSome x (λ found. (rows_at cmp old (key at) ≡ Some found) × (list_any (λ r. is_eq (cmp (own r) (key at))) rows ≡ false)) → IfSome x (are at)
      step None h = tt
      step (Some found) h = subst (λ y. IfSome y (are at)) h.0 (known at)

  pub remembers_none : (m : RowMap K R) → KnowsNone cmp m → Remembers cmp key are m
  remembers_none m none at = subst (λ (x : Option (List R)). IfSome x (are at)) (sym (none (key at))) tt

  -- all rows of a table are learned, where those with a key are the rows that are sought by it
  pub remembers_all : (own : R → K) (rows : List R) (old new : RowMap K R) → KnowsAll cmp own rows old new → ((at : B) → are at (filter (λ r. is_eq (cmp (own r) (key at))) rows)) → Remembers cmp key are old → Remembers cmp key are new
  remembers_all own rows old new learned sought known at = step (rows_at cmp new (key at)) (learned (key at))
    where
      step : (x : Option (List R)) → IfSome x (λ found. (found ≡ filter (λ r. is_eq (cmp (own r) (key at))) rows) ⊎ (rows_at cmp old (key at) ≡ Some found)) → IfSome x (are at)
      step None h = tt
      step (Some found) (inl is) = subst (are at) (sym is) (sought at)
      step (Some found) (inr was) = subst (λ y. IfSome y (are at)) was (known at)
