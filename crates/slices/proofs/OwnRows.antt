-- Rows that are a table's: one of them that passes a test, and none at all.
use Rattle.slices.proofs.Words.{◌≡◌, Bool, true, false, ◌&&◌, List, [], ◌∷◌, filter, refl, ap, sym, subst, ◌||◌, if◌then◌else◌, Option, list_any, AreRows, AreOwn}

-- what follows of a row that passes follows of rows of which one does
pub own_any : {K R : Type 0} (key : R → K) (allowed : K → Bool) (row : K → Option R) (test : R → Bool) (rows : List R) (P : Type 0) → AreOwn key allowed row rows → ((r : R) → test r ≡ true → allowed (key r) ≡ true → P) → list_any test rows ≡ true → P
own_any key allowed row test [] P h f e = absurd (let none : false ≡ true = e in cc)
own_any key allowed row test (r ∷ rows) P h f e =
    elim (test r) as (λ b. test r ≡ b → b || list_any test rows ≡ true → P) [
      | true ↦ λ t _. f r t h.0
      | false ↦ λ _ rest. own_any key allowed row test rows P h.2 f rest
    ] refl e

-- a row that passes both tests passes one among those that pass the other
pub any_kept : {R : Type 0} (keep test : R → Bool) (rows : List R) → list_any test (filter keep rows) ≡ list_any (λ r. keep r && test r) rows
any_kept keep test [] = refl
any_kept keep test (r ∷ rows) = elim (keep r) as (λ b. list_any test (if b then r ∷ filter keep rows else filter keep rows) ≡ (b && test r) || list_any (λ r. keep r && test r) rows) [
  | true ↦ ap (λ b. test r || b) (any_kept keep test rows)
  | false ↦ any_kept keep test rows
]

-- where none is needed none is enough
pub no_rows : {K R : Type 0} (same : K → K → Bool) (key : R → K) (needed allowed : K → Bool) (row : K → Option R) (rows : List R) → rows ≡ [] → ((k : K) → needed k ≡ true → ⊥) → AreRows same key needed allowed row rows
no_rows {R = R} same key needed allowed row rows none never = subst (λ (l : List R). AreRows same key needed allowed row l) (sym none) (record { found = λ k e. absurd (never k e); own = tt; once = refl })
