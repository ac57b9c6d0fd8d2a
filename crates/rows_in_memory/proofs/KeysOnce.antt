-- Keys of rows, each once: which they are, and that none is there twice.
use Rattle.rows_in_memory.proofs.Words.{◌≡◌, Bool, true, false, ◌&&◌, not, List, [], ◌∷◌, ◌++◌, refl, ap, sym, subst, ◌∙◌, ◌||◌, if◌then◌else◌, list_any, no_two, and_both, not_true, or_false, or_none, has_key, with_key, with_keys}

module _ {K : Type 0} (same : K → K → Bool) (is : (k m : K) → same k m ≡ true → k ≡ m) (turned : (k m : K) → same k m ≡ same m k) where
  has_more : (x : K) (ks : List K) (k : K) → has_key same (ks ++ x ∷ []) k ≡ has_key same ks k || same k x
  has_more x [] k = or_false (same k x)
  has_more x (y ∷ ys) k = elim (same k y) as (λ b. b || has_key same (ys ++ x ∷ []) k ≡ (b || has_key same ys k) || same k x) [ true ↦ refl | false ↦ has_more x ys k ]

  has_with : (x : K) (ks : List K) (k : K) → has_key same (with_key same x ks) k ≡ has_key same ks k || same k x
  has_with x ks k = elim (has_key same ks x) as (λ b. has_key same ks x ≡ b → has_key same (if b then ks else ks ++ x ∷ []) k ≡ has_key same ks k || same k x) [
    | true ↦ λ e. known (same k x) refl e
    | false ↦ λ e. has_more x ks k
  ] refl
    where
      known : (b : Bool) → same k x ≡ b → has_key same ks x ≡ true → has_key same ks k ≡ has_key same ks k || b
      known true f e =
          let there : has_key same ks k ≡ true = subst (λ (z : K). has_key same ks z ≡ true) (sym (is k x f)) e in
          there ∙ sym (ap (λ c. c || true) there)
      known false f e = sym (or_false (has_key same ks k))

  once_more : (x : K) (ks : List K) → has_key same ks x ≡ false → no_two same ks ≡ true → no_two same (ks ++ x ∷ []) ≡ true
  once_more x [] e h = refl
  once_more x (y ∷ ys) e h =
      let two = or_none (same x y) (has_key same ys x) e in
      let rest = and_both (not (list_any (same y) ys)) (no_two same ys) h in
      let other : same y x ≡ false = turned y x ∙ two.0 in
      let none : list_any (same y) (ys ++ x ∷ []) ≡ false = has_more x ys y ∙ (λ i. not_true (list_any (same y) ys) rest.0 i || other i) in
      λ i. not (none i) && once_more x ys two.1 rest.1 i

  once_with : (x : K) (ks : List K) → no_two same ks ≡ true → no_two same (with_key same x ks) ≡ true
  once_with x ks h = elim (has_key same ks x) as (λ b. has_key same ks x ≡ b → no_two same (if b then ks else ks ++ x ∷ []) ≡ true) [ true ↦ λ e. h | false ↦ λ e. once_more x ks e h ] refl

  module _ {R : Type 0} (key : R → K) where
    -- those given and those of the rows
    pub has_keys : (rows : List R) (ks : List K) (k : K) → has_key same (with_keys same key rows ks) k ≡ has_key same ks k || list_any (λ r. same k (key r)) rows
    has_keys [] ks k = sym (or_false (has_key same ks k))
    has_keys (r ∷ rs) ks k = has_keys rs (with_key same (key r) ks) k ∙ ap (λ b. b || list_any (λ r. same k (key r)) rs) (has_with (key r) ks k) ∙ grouped (has_key same ks k)
      where
        grouped : (a : Bool) → (a || same k (key r)) || list_any (λ r. same k (key r)) rs ≡ a || (same k (key r) || list_any (λ r. same k (key r)) rs)
        grouped true = refl
        grouped false = refl

    -- none of them twice
    pub once_keys : (rows : List R) (ks : List K) → no_two same ks ≡ true → no_two same (with_keys same key rows ks) ≡ true
    once_keys [] ks h = h
    once_keys (r ∷ rs) ks h = once_keys rs (with_key same (key r) ks) (once_with (key r) ks h)
