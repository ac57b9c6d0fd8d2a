-- Two lists whose keys rise: where they begin to differ, the lesser key is the first whose look-ups differ.
use Rattle.std.specs.Ordering.{is_gt}
use Rattle.whole_tables.proofs.Words.{◌≡◌, ◌≢◌, ℕ, zero, suc, Bool, true, false, List, [], ◌∷◌, find, take, drop, Option, Some, None, inl, inr, refl, sym, ap, subst, ◌∙◌, Ordering, Less, Equal, Greater, is_eq, is_lt, IsPermutation, if◌then◌else◌, IfSome, AllByRecursion, IsSortedBy, ordering_reverse, IsTotalOrder, cases_Bool, same_Some, none-some, IsAscending, all_weaker, IsSame, AreOnce, FindAlike, IsFirstOther, Begin, ArePartedAt}
use Rattle.whole_tables.proofs.Deciding.{itself, few_once, few_moved, rises, found_sorted}

pub if_some : {X : Type 0} (o : Option X) (P Q : X → Type 0) → ((x : X) → P x → Q x) → IfSome o P → IfSome o Q
if_some None P Q f h = tt
if_some (Some x) P Q f h = f x h

all_drop : {X : Type 0} (P : X → Type 0) (n : ℕ) (xs : List X) → AllByRecursion P xs → AllByRecursion P (drop n xs)
all_drop P zero xs all = all
all_drop P (suc n) [] all = tt
all_drop P (suc n) (x ∷ xs) all = all_drop P n xs all.1

module _ {K X : Type 0} (R : K → K → Ordering) (o : IsTotalOrder R) (same : K → K → Bool) (same_is : (a b : K) → is_eq (R a b) ≡ same a b) (is_same : IsSame same) (key : X → K) where
  abbrev under : K → X → Bool
  under k x = same k (key x)

  abbrev Up : List X → Type 0
  Up xs = IsAscending (λ x y. R (key x) (key y) ≡ Less) xs

  abbrev FirstOther : List X → List X → K → Type 0
  FirstOther xs ys k = IsFirstOther same key R xs ys k

  below : (i j : K) → R i j ≡ Less → same i j ≡ false
  below i j e = sym (same_is i j) ∙ ap is_eq e

  turned : (i j : K) → R i j ≡ Less → R j i ≡ Greater
  turned i j e = o.antisymm j i ∙ ap ordering_reverse e

  above : (i j : K) → R i j ≡ Less → same j i ≡ false
  above i j e = sym (same_is j i) ∙ ap is_eq (turned i j e)

  same_key : (k : K) (x : X) → k ≡ key x → same k (key x) ≡ true
  same_key k x e = ap (λ i. same i (key x)) e ∙ itself R o same same_is is_same key (key x)

  own : (k : K) (x : X) (xs : List X) → k ≡ key x → find (under k) (x ∷ xs) ≡ Some x
  own k x xs e = rw (same_key k x e) refl

  none_below : (j : K) (xs : List X) → AllByRecursion (λ x. R j (key x) ≡ Less) xs → find (under j) xs ≡ None
  none_below j [] all = refl
  none_below j (x ∷ xs) all = rw (below j (key x) all.0) (none_below j xs all.1)

  -- what is below the first is below all
  below_all : (j : K) (y : X) (ys : List X) → R j (key y) ≡ Less → Up (y ∷ ys) → AllByRecursion (λ x. R j (key x) ≡ Less) (y ∷ ys)
  below_all j y ys low up = (low, all_weaker (λ x. R (key y) (key x) ≡ Less) (λ x. R j (key x) ≡ Less) (λ x more. o.trans j (key y) (key x) low more) ys up.0)

  none_in : (j : K) (y : X) (ys : List X) → R j (key y) ≡ Less → Up (y ∷ ys) → find (under j) (y ∷ ys) ≡ None
  none_in j y ys low up = none_below j (y ∷ ys) (below_all j y ys low up)

  at_key : (j k : K) (x : X) → k ≡ key x → R j k ≡ Less → R j (key x) ≡ Less
  at_key j k x is low = subst (λ i. R j i ≡ Less) is low

  swapped : (xs ys : List X) (k : K) → FirstOther ys xs k → FirstOther xs ys k
  swapped xs ys k h = record { differs = λ e. h.differs (sym e); first = λ j low. sym (h.first j low) }

  -- one of them has no row left
  alone : (y : X) (ys : List X) (k : K) → Up (y ∷ ys) → k ≡ key y → FirstOther [] (y ∷ ys) k
  alone y ys k up is = record {
    differs = λ e. none-some y (e ∙ own k y ys is);
    first = λ j low. sym (none_in j y ys (at_key j k y is low) up);
  }

  less : (x y : X) (xs ys : List X) (k : K) → Up (x ∷ xs) → Up (y ∷ ys) → k ≡ key x → R (key x) (key y) ≡ Less → FirstOther (x ∷ xs) (y ∷ ys) k
  less x y xs ys k up down is low =
      let mine : R k (key y) ≡ Less = subst (λ i. R i (key y) ≡ Less) (sym is) low in
      record {
        differs = λ e. none-some x (sym (none_in k y ys mine down) ∙ sym e ∙ own k x xs is);
        first = λ j under_k. none_in j x xs (at_key j k x is under_k) up ∙ sym (none_in j y ys (o.trans j k (key y) under_k mine) down);
      }

  equal : (x y : X) (xs ys : List X) (k : K) → Up (x ∷ xs) → Up (y ∷ ys) → x ≢ y → k ≡ key x → R (key x) (key y) ≡ Equal → FirstOther (x ∷ xs) (y ∷ ys) k
  equal x y xs ys k up down other is e =
      let keys : key x ≡ key y = is_same (key x) (key y) (sym (same_is (key x) (key y)) ∙ ap is_eq e) in
      record {
        differs = λ alike. other (same_Some x y (sym (own k x xs is) ∙ alike ∙ own k y ys (is ∙ keys)));
        first = λ j low. none_in j x xs (at_key j k x is low) up ∙ sym (none_in j y ys (at_key j k y (is ∙ keys) low) down);
      }

  both : (r : Ordering) (x y : X) (xs ys : List X) (k : K) → Up (x ∷ xs) → Up (y ∷ ys) → x ≢ y → R (key x) (key y) ≡ r → k ≡ (if is_gt r then key y else key x) → FirstOther (x ∷ xs) (y ∷ ys) k
  both Less x y xs ys k up down other e is = less x y xs ys k up down is e
  both Equal x y xs ys k up down other e is = equal x y xs ys k up down other is e
  both Greater x y xs ys k up down other e is =
      swapped (x ∷ xs) (y ∷ ys) k (less y x ys xs k down up is (o.antisymm (key y) (key x) ∙ ap ordering_reverse e))

  begins : (xs ys : List X) (k : K) → Up xs → Up ys → Begin key R xs ys k → FirstOther xs ys k
  begins [] [] k up down h = absurd h
  begins [] (y ∷ ys) k up down h = alone y ys k down h
  begins (x ∷ xs) [] k up down h = swapped (x ∷ xs) [] k (alone x xs k up h)
  begins (x ∷ xs) (y ∷ ys) k up down h = both (R (key x) (key y)) x y xs ys k up down h.0 refl h.1

  -- what holds of both beginnings holds of the lesser
  of_lesser : (P : K → Type 0) (a b : K) (r : Ordering) → P a → P b → P (if is_gt r then b else a)
  of_lesser P a b Less p q = p
  of_lesser P a b Equal p q = p
  of_lesser P a b Greater p q = q

  of_key : (P : K → Type 0) (xs ys : List X) (k : K) → AllByRecursion (λ x. P (key x)) xs → AllByRecursion (λ y. P (key y)) ys → Begin key R xs ys k → P k
  of_key P [] [] k p q h = absurd h
  of_key P [] (y ∷ ys) k p q h = subst P (sym h) q.0
  of_key P (x ∷ xs) [] k p q h = subst P (sym h) p.0
  of_key P (x ∷ xs) (y ∷ ys) k p q h = subst P (sym h.1) (of_lesser P (key x) (key y) (R (key x) (key y)) p.0 q.0)

  -- a row before, which both have
  behind : (z : X) (xs ys : List X) (k : K) → R (key z) k ≡ Less → FirstOther xs ys k → FirstOther (z ∷ xs) (z ∷ ys) k
  behind z xs ys k low h = record {
    differs = λ e. h.differs (rw (above (key z) k low) at e);
    first = λ j under_k. elim (cases_Bool (same j (key z))) [
      | inl hit ↦ rw hit refl
      | inr miss ↦ rw miss (h.first j under_k)
    ];
  }

  parted : (n : ℕ) (xs ys : List X) (k : K) → Up xs → Up ys → take n xs ≡ take n ys → Begin key R (drop n xs) (drop n ys) k → FirstOther xs ys k
  parted zero xs ys k up down same_rows h = begins xs ys k up down h
  parted (suc n) [] [] k up down same_rows h = absurd h
  parted (suc n) [] (y ∷ ys) k up down same_rows h = absurd cc
  parted (suc n) (x ∷ xs) [] k up down same_rows h = absurd cc
  parted (suc n) (x ∷ xs) (y ∷ ys) k up down same_rows h =
      let is : x ≡ y = cc in
      let rest : take n xs ≡ take n ys = cc in
      let later : AllByRecursion (λ z. R (key x) (key z) ≡ Less) ys = subst (λ w. AllByRecursion (λ z. R (key w) (key z) ≡ Less) ys) (sym is) down.0 in
      let low : R (key x) k ≡ Less = of_key (λ i. R (key x) i ≡ Less) (drop n xs) (drop n ys) k (all_drop _ n xs up.0) (all_drop _ n ys later) h in
      subst (λ z. FirstOther (x ∷ xs) (z ∷ ys) k) is (behind x xs ys k low (parted n xs ys k up.1 down.1 rest h))

  -- ---- lists that are sorted first

  sorted_up : (xs us : List X) → AreOnce same key xs → IsPermutation xs us → IsSortedBy (λ a b. is_lt (R (key a) (key b))) us → Up us
  sorted_up xs us once moved up = rises R o same same_is is_same key us up (few_moved R o same same_is is_same key xs us moved (few_once R o same same_is is_same key xs once))

  pub first_other : (xs ys us vs : List X) (k : K) → AreOnce same key xs → AreOnce same key ys → IsPermutation xs us → IsPermutation ys vs → IsSortedBy (λ a b. is_lt (R (key a) (key b))) us → IsSortedBy (λ a b. is_lt (R (key a) (key b))) vs
      → ArePartedAt key R us vs k → FirstOther xs ys k
  first_other xs ys us vs k p q mx my ux uy h =
      let it = parted h.place us vs k (sorted_up xs us p mx ux) (sorted_up ys vs q my uy) h.same h.differ in
      let mine = found_sorted R o same same_is is_same key xs us p mx ux in
      let theirs = found_sorted R o same same_is is_same key ys vs q my uy in
      record {
        differs = λ e. it.differs (mine k ∙ e ∙ sym (theirs k));
        first = λ j low. sym (mine j) ∙ it.first j low ∙ theirs j;
      }

  pub alike : (xs ys us vs : List X) → AreOnce same key xs → AreOnce same key ys → IsPermutation xs us → IsPermutation ys vs → IsSortedBy (λ a b. is_lt (R (key a) (key b))) us → IsSortedBy (λ a b. is_lt (R (key a) (key b))) vs
      → us ≡ vs → FindAlike same key xs ys
  alike xs ys us vs p q mx my ux uy e k =
      sym (found_sorted R o same same_is is_same key xs us p mx ux k) ∙ ap (find (under k)) e ∙ found_sorted R o same same_is is_same key ys vs q my uy k
