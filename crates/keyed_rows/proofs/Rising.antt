-- Two lists whose keys rise and that answer each look-up alike are one.
use Rattle.keyed_rows.proofs.Words.{◌≡◌, Bool, true, false, cond, ◌&&◌, inl, inr, List, [], ◌∷◌, filter, find, slice_get, Some, None, refl, sym, ap, ◌∙◌, subst, arith, IsPermutation, ◌⊎◌, Option, AllByRecursion, cases_Bool, false_from_ne_true, recursion_from_All, All-from_recursion, length_permutation, All-permutation, IsAscending, all_has, has_found, all_weaker, filter_none, IsPermutation-filter, IsSame, AreInOrder}

-- ---- look-ups in a list and in what it is made of

pub first_kept : {X : Type 0} (p : X → Bool) (xs : List X) → find p xs ≡ slice_get (filter p xs) 0
first_kept p [] = refl
first_kept p (x ∷ xs) = elim (cases_Bool (p x)) [ inl e ↦ rw e refl | inr e ↦ rw e (first_kept p xs) ]

pub none_kept : {X : Type 0} (p : X → Bool) (xs : List X) → filter p xs ≡ [] → find p xs ≡ None
none_kept {X} p xs none = first_kept p xs ∙ ap (λ (ys : List X). slice_get ys 0) none

one : {X : Type 0} (x : X) (ys : List X) → IsPermutation (x ∷ []) ys → ys ≡ x ∷ []
one x [] same = absurd (omega (arith, length_permutation _ _ same))
one x (y ∷ []) same = ap (λ z. z ∷ []) (recursion_from_All (λ z. z ≡ x) (y ∷ []) (All-permutation (λ z. z ≡ x) (x ∷ []) (y ∷ []) same (All-from_recursion (λ z. z ≡ x) (x ∷ []) (refl, tt)))).0
one x (y ∷ z ∷ ys) same = absurd (omega (arith, length_permutation _ _ same))

none : {X : Type 0} (ys : List X) → IsPermutation [] ys → ys ≡ []
none [] same = refl
none (y ∷ ys) same = absurd (omega (arith, length_permutation _ _ same))

-- at most one of them passes
abbrev pub IsFew : {X : Type 0} → List X → Type 0
IsFew {X} xs = (xs ≡ []) ⊎ ((x : X) × (xs ≡ x ∷ []))

-- where at most one passes, the order does not matter
pub found_alike : {X : Type 0} (p : X → Bool) (xs ys : List X) → IsPermutation xs ys → IsFew (filter p xs) → find p xs ≡ find p ys
found_alike {X} p xs ys same few =
    let kept = IsPermutation-filter p xs ys same in
    let one_list : filter p ys ≡ filter p xs = elim few [
      | inl empty ↦ none _ (subst (λ l. IsPermutation l (filter p ys)) empty kept) ∙ sym empty
      | inr it ↦ one it.0 _ (subst (λ l. IsPermutation l (filter p ys)) it.1 kept) ∙ sym it.1
    ] in
    first_kept p xs ∙ sym (ap (λ (l : List X). slice_get l 0) one_list) ∙ sym (first_kept p ys)

-- of those that are wanted
pub found_wanted : {X : Type 0} (wanted p : X → Bool) (xs : List X) → find p (filter wanted xs) ≡ find (λ x. wanted x && p x) xs
found_wanted wanted p [] = refl
found_wanted wanted p (x ∷ xs) = let more = found_wanted wanted p xs in elim (cases_Bool (wanted x)) [
  | inl e ↦ rw e (ap (λ o. cond (p x) (Some x) o) more)
  | inr e ↦ rw e more
]

-- ---- lists whose keys rise

module _ {K X : Type 0} (same : K → K → Bool) (is_same : IsSame same) (itself : (k : K) → same k k ≡ true) (before : K → K → Type 0) (never : (k : K) → before k k → ⊥)
    (chain : (i j k : K) → before i j → before j k → before i k) (key : X → K) where
  abbrev Rises : List X → Type 0
  Rises = IsAscending (λ x y. before (key x) (key y))

  apart : (i j : K) → before i j → same i j ≡ false
  apart i j low = false_from_ne_true _ (λ e. never i (subst (before i) (sym (is_same i j e)) low))

  none_above : (k : K) (xs : List X) → AllByRecursion (λ x. before k (key x)) xs → filter (λ x. same k (key x)) xs ≡ []
  none_above k xs above = filter_none _ xs (all_weaker _ (λ x. same k (key x) ≡ false) (λ x low. apart k (key x) low) xs above)

  pub few_with_key : (k : K) (xs : List X) → Rises xs → IsFew (filter (λ x. same k (key x)) xs)
  few_with_key k [] up = inl refl
  few_with_key k (x ∷ xs) up = elim (cases_Bool (same k (key x))) [
    | inl e ↦ rw e (inr (x, ap (λ ys. x ∷ ys) (none_above k xs (subst (λ i. AllByRecursion (λ y. before i (key y)) xs) (sym (is_same k (key x) e)) up.0))))
    | inr e ↦ rw e (few_with_key k xs up.1)
  ]

  -- where the first ones differ, each is before the other
  others : (x y : X) (ys : List X) → AllByRecursion (λ z. before (key y) (key z)) ys → same (key x) (key y) ≡ false → find (λ z. same (key x) (key z)) (y ∷ ys) ≡ Some x → before (key y) (key x)
  others x y ys above other found = all_has (λ z. before (key y) (key z)) ys x above (has_found (λ z. same (key x) (key z)) ys x (rw other at found)).0

  own : (x : X) (xs : List X) → find (λ z. same (key x) (key z)) (x ∷ xs) ≡ Some x
  own x xs = rw (itself (key x)) refl

  pub one_list : (xs ys : List X) → Rises xs → Rises ys → ((k : K) → find (λ x. same k (key x)) xs ≡ find (λ x. same k (key x)) ys) → xs ≡ ys
  one_list [] [] up down alike = refl
  one_list [] (y ∷ ys) up down alike = absurd (let e = alike (key y) ∙ own y ys in cc)
  one_list (x ∷ xs) [] up down alike = absurd (let e = sym (own x xs) ∙ alike (key x) in cc)
  one_list (x ∷ xs) (y ∷ ys) up down alike = elim (cases_Bool (same (key x) (key y))) [
    | inl e ↦
        let first : Some x ≡ Some y = sym (own x xs) ∙ (rw e at (alike (key x))) in
        let is : x ≡ y = cc in
        let keys : key x ≡ key y = ap key is in
        ap (λ z. z ∷ xs) is ∙ ap (λ zs. y ∷ zs) (one_list xs ys up.1 down.1 (λ k. later k keys))
    | inr e ↦
        let above : before (key y) (key x) = others x y ys down.0 e (sym (alike (key x)) ∙ own x xs) in
        let turned : same (key y) (key x) ≡ false = apart (key y) (key x) above in
        let below : before (key x) (key y) = others y x xs up.0 turned (alike (key y) ∙ own y ys) in
        absurd (never (key x) (chain (key x) (key y) (key x) below above))
  ]
    where
      later : (k : K) → key x ≡ key y → find (λ z. same k (key z)) xs ≡ find (λ z. same k (key z)) ys
      later k keys = elim (cases_Bool (same k (key x))) [
        | inl e ↦
            let is = is_same k (key x) e in
            none_kept _ xs (none_above k xs (subst (λ i. AllByRecursion (λ z. before i (key z)) xs) (sym is) up.0))
            ∙ sym (none_kept _ ys (none_above k ys (subst (λ i. AllByRecursion (λ z. before i (key z)) ys) (sym (is ∙ keys)) down.0)))
        | inr e ↦
            let other : same k (key y) ≡ false = ap (same k) (sym keys) ∙ e in
            rw (e, other) at (alike k)
      ]

  -- what the look-ups find stands in one order
  pub one_order : (row : K → Option X) (xs ys : List X) → AreInOrder same before key row xs → AreInOrder same before key row ys → xs ≡ ys
  one_order row xs ys p q = one_list xs ys p.rises q.rises (λ k. p.found k ∙ sym (q.found k))
