-- The row that is read under a key.
use Rattle.store.proofs.Words.{◌≡◌, ℕ, List, [], ◌∷◌, ap, sym, ◌∙◌, bytes_eq, slice_get, Option, Some, find, if◌then◌else◌, RepeatRow, AreRows, RepeatKey, same_repeat, repeat_key, and_both, same_text_refl}

module _ (k : List ℕ) (row : RepeatKey → Option RepeatRow) where
  pub first_read : (rows : List RepeatRow) → AreRows {K = RepeatKey} same_repeat repeat_key (λ key. bytes_eq k key) row rows → ◌≡◌ {A = Option RepeatRow} (slice_get rows 0) (row k)
  first_read [] are = are.found k (same_text_refl k)
  first_read (x ∷ rows) are =
      sym (ap (λ b. if b then Some x else find (λ s. same_repeat k (repeat_key s)) rows) (and_both _ _ are.only).0)
      ∙ are.found k (same_text_refl k)
