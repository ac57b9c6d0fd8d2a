-- Rows sought by one key after another, of keys that are apart.
use Rattle.slices.proofs.Words.{◌≡◌, Bool, true, false, not, List, [], ◌∷◌, ◌++◌, Option, sym, subst, ◌∙◌, ◌||◌, list_any, AreRows, no_two, and_both, not_true, has_key, Each}
use Rattle.table_words.specs.Found as read
use Rattle.slices.proofs.RowsTold.{read_none, read_both, rows_read, rows_as}

module _ {J : Type 0} (one : J → J → Bool) (is_one : (j m : J) → one j m ≡ true → j ≡ m) (turned : (j m : J) → one j m ≡ one m j) where
  module _ {K R : Type 0} (same : K → K → Bool) (key : R → K) (is : (k m : K) → same k m ≡ true → k ≡ m) (own : (k : K) → same k k ≡ true) (part : K → J) (row : K → Option R) where
    each_read : (js : List J) (rows : List R) → no_two one js ≡ true → Each (λ j found. read.AreRows same key (λ k. one j (part k)) row found) js rows → read.AreRows same key (λ k. has_key one js (part k)) row rows
    each_read [] rows once e = subst (λ (l : List R). read.AreRows same key (λ k. false) row l) (sym e) (read_none same key is own row)
    each_read (j ∷ js) rows once (xs, ys, p, more, e) =
        let two = and_both (not (list_any (one j) js)) (no_two one js) once in
        let rest = each_read js ys two.1 more in
        let both = read_both same key is own (λ k. one j (part k)) (λ k. has_key one js (part k)) row xs ys (λ k f. apart k f (not_true _ two.0)) p rest in
        subst (λ (l : List R). read.AreRows same key (λ k. has_key one (j ∷ js) (part k)) row l) (sym e)
        (subst (λ (w : K → Bool). read.AreRows same key w row (xs ++ ys)) (λ i k. turned j (part k) i || has_key one js (part k)) both)
      where
        apart : (k : K) → one j (part k) ≡ true → list_any (one j) js ≡ false → has_key one js (part k) ≡ false
        apart k f none = subst (λ (x : J). has_key one js x ≡ false) (is_one j (part k) f) none

    -- are rows of these keys
    pub keys_read : (js : List J) (wanted : J → Bool) (rows : List R) → no_two one js ≡ true → ((j : J) → has_key one js j ≡ wanted j) → Each (λ j found. read.AreRows same key (λ k. one j (part k)) row found) js rows
        → AreRows same key (λ k. wanted (part k)) (λ k. wanted (part k)) row rows
    keys_read js wanted rows once told each =
        rows_as same key is own (λ k. has_key one js (part k)) (λ k. has_key one js (part k)) (λ k. wanted (part k)) (λ k. wanted (part k)) row rows (λ k e. told (part k) ∙ e) (λ k e. sym (told (part k)) ∙ e)
        (rows_read same key is own (λ k. has_key one js (part k)) row rows (each_read js rows once each))
