-- A list whose keys come once: sorted by key they rise, and each look-up finds the same.
use Rattle.whole_tables.proofs.Words.{◌≡◌, ℕ, suc, ◌+◌, ◌<◌, ◌≤◌, Bool, true, false, List, [], ◌∷◌, length, filter, find, inl, inr, get_or, refl, sym, ap, subst, ◌∙◌, arith, Ordering, Less, Equal, Greater, is_eq, is_lt, IsPermutation, true≢false, AllByRecursion, list_any, IsSortedBy, ordering_reverse, IsTotalOrder, cases_Bool, and_parts, not-true, sorted_far, ranks_by, length_permutation, IsPermutation-sym, IsAscending, IsPermutation-filter, IsSame, found_alike, few_with_key, AreOnce}

-- ---- lists

pub all_by_place : {X : Type 0} (P : X → Type 0) (xs : List X) → ((j : ℕ) (d : X) → j < length xs → P (get_or xs j d)) → AllByRecursion P xs
all_by_place P [] f = tt
all_by_place P (x ∷ xs) f = (f 0 x (omega arith), all_by_place P xs (λ j d low. f (suc j) d (omega (arith, low))))

none_any : {X : Type 0} (p : X → Bool) (xs : List X) → list_any p xs ≡ false → AllByRecursion (λ x. p x ≡ false) xs
none_any p [] e = tt
none_any p (x ∷ xs) e = elim (cases_Bool (p x)) [
  | inl hit ↦ absurd (true≢false (rw hit at e))
  | inr miss ↦ (miss, none_any p xs (rw miss at e))
]

none_pass : {X : Type 0} (p : X → Bool) (xs : List X) → AllByRecursion (λ x. p x ≡ false) xs → length (filter p xs) ≡ 0
none_pass p [] all = refl
none_pass p (x ∷ xs) all = rw all.0 (none_pass p xs all.1)

pass_none : {X : Type 0} (p : X → Bool) (xs : List X) → length (filter p xs) ≤ 0 → AllByRecursion (λ x. p x ≡ false) xs
pass_none p [] e = tt
pass_none p (x ∷ xs) e = elim (cases_Bool (p x)) [
  | inl hit ↦ let more = rw hit at e in absurd (omega (arith, more))
  | inr miss ↦ (miss, pass_none p xs (rw miss at e))
]

-- ---- orders

only_equal : (r : Ordering) → r ≡ ordering_reverse r → r ≡ Equal
only_equal Less e = absurd cc
only_equal Equal e = refl
only_equal Greater e = absurd cc

only_less : (r : Ordering) → is_lt (ordering_reverse r) ≡ false → is_eq r ≡ false → r ≡ Less
only_less Less e f = refl
only_less Equal e f = absurd (true≢false f)
only_less Greater e f = absurd (true≢false e)

module _ {K X : Type 0} (R : K → K → Ordering) (o : IsTotalOrder R) (same : K → K → Bool) (same_is : (a b : K) → is_eq (R a b) ≡ same a b) (is_same : IsSame same) (key : X → K) where
  abbrev pub under : K → X → Bool
  under k x = same k (key x)

  abbrev lt : X → X → Bool
  lt x y = is_lt (R (key x) (key y))

  own : (k : K) → R k k ≡ Equal
  own k = only_equal (R k k) (o.antisymm k k)

  pub itself : (k : K) → same k k ≡ true
  itself k = sym (same_is k k) ∙ ap is_eq (own k)

  never : (k : K) → R k k ≡ Less → ⊥
  never k e = let two : Less ≡ Equal = sym e ∙ own k in cc

  -- under each key one row at most
  abbrev pub Few : List X → Type 0
  Few xs = (k : K) → length (filter (under k) xs) ≤ 1

  pub few_once : (xs : List X) → AreOnce same key xs → Few xs
  few_once [] once k = omega arith
  few_once (x ∷ xs) once k =
      let parts = and_parts _ _ once in
      elim (cases_Bool (under k x)) [
        | inl hit ↦
            let others = none_any (λ y. same (key x) (key y)) xs (not-true _ parts.0) in
            let none : length (filter (under k) xs) ≡ 0 = none_pass (under k) xs (subst (λ j. AllByRecursion (λ y. same j (key y) ≡ false) xs) (sym (is_same k (key x) hit)) others) in
            rw hit (omega (arith, none))
        | inr miss ↦ rw miss (few_once xs parts.1 k)
      ]

  pub few_moved : (xs ys : List X) → IsPermutation xs ys → Few xs → Few ys
  few_moved xs ys moved few k = let n = length_permutation _ _ (IsPermutation-filter (under k) xs ys moved) in omega (arith, n, few k)

  pub few_tail : (x : X) (xs : List X) → Few (x ∷ xs) → Few xs
  few_tail x xs few k = elim (cases_Bool (under k x)) [
    | inl hit ↦ let n = rw hit at (few k) in omega (arith, n)
    | inr miss ↦ rw miss at (few k)
  ]

  pub few_head : (x : X) (xs : List X) → Few (x ∷ xs) → AllByRecursion (λ y. same (key x) (key y) ≡ false) xs
  few_head x xs few = let n = rw (itself (key x)) at (few (key x)) in pass_none (under (key x)) xs (omega (arith, n))

  -- what is sorted, each key once, rises
  both : (x : X) (ys : List X) → AllByRecursion (λ y. lt y x ≡ false) ys → AllByRecursion (λ y. same (key x) (key y) ≡ false) ys → AllByRecursion (λ y. R (key x) (key y) ≡ Less) ys
  both x [] far apart = tt
  both x (y ∷ ys) far apart =
      (only_less (R (key x) (key y)) (ap is_lt (sym (o.antisymm (key y) (key x))) ∙ far.0) (same_is (key x) (key y) ∙ apart.0), both x ys far.1 apart.1)

  sorted_tail : (x : X) (xs : List X) → IsSortedBy lt (x ∷ xs) → IsSortedBy lt xs
  sorted_tail x xs up = λ k d low within.
      let e : suc k + 1 ≡ suc (k + 1) = omega arith in
      subst (λ j. lt (get_or (x ∷ xs) j d) (get_or xs k d) ≡ false) e (up (suc k) d (omega arith) (omega (arith, within)))

  pub rises : (xs : List X) → IsSortedBy lt xs → Few xs → IsAscending (λ x y. R (key x) (key y) ≡ Less) xs
  rises [] up few = tt
  rises (x ∷ xs) up few =
      let far = all_by_place (λ y. lt y x ≡ false) xs (λ j d low. sorted_far lt (ranks_by o key) (x ∷ xs) up 0 (suc j) d (omega arith) (omega (arith, low))) in
      (both x xs far (few_head x xs few), rises xs (sorted_tail x xs up) (few_tail x xs few))

  pub found_sorted : (xs ys : List X) → AreOnce same key xs → IsPermutation xs ys → IsSortedBy lt ys → (k : K) → find (under k) ys ≡ find (under k) xs
  found_sorted xs ys once moved up k =
      found_alike (under k) ys xs (IsPermutation-sym xs ys moved)
      (few_with_key same is_same itself (λ i j. R i j ≡ Less) never o.trans key k ys (rises ys up (few_moved xs ys moved (few_once xs once))))
