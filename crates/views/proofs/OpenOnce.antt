-- No two orders of a page have one name.
use Rattle.views.proofs.Words.{◌≡◌, ℕ, Bool, true, false, ◌&&◌, not, List, [], ◌∷◌, refl, ap, sym, ◌∙◌, zero, suc, inl, inr, ◌||◌, ℤ, Option, Some, take, list_any, same_text, Act, IsHistory, Placed, orders, order_named, is_open, no_two, same_text_is, same_order, orders_found, AllBehind, AreRising, rising_kept, page, is_behind, is_served_before, orders_served, open_orders, PAGE_MAX}
use Rattle.views.proofs.Members.{member_found}
use Rattle.views.proofs.OpenPage.{served_rises, of_served}
use Rattle.views.proofs.OpenShown.{of_taken}
use Rattle.views.proofs.Service.{ahead_strict}
use Rattle.views.proofs.Sorting.{IsIn, of_filter}

module _ {X : Type 0} (before same : X → X → Bool) where
  behind_taken : (n : ℕ) (x : X) (xs : List X) → AllBehind before x xs → AllBehind before x (take n xs)
  behind_taken zero x [] h = tt
  behind_taken zero x (y ∷ ys) h = tt
  behind_taken (suc n) x [] h = tt
  behind_taken (suc n) x (y ∷ ys) h = (h.0, behind_taken n x ys h.1)

  pub rising_taken : (n : ℕ) (xs : List X) → AreRising before xs → AreRising before (take n xs)
  rising_taken zero [] h = tt
  rising_taken zero (x ∷ xs) h = tt
  rising_taken (suc n) [] h = tt
  rising_taken (suc n) (x ∷ xs) h = (behind_taken n x xs h.0, rising_taken n xs h.1)

  none_same : (x : X) (ys : List X) → AllBehind before x ys → ((y : X) → IsIn y ys → before x y ≡ true → same x y ≡ false) → list_any (same x) ys ≡ false
  none_same x [] h other = refl
  none_same x (y ∷ ys) h other = (λ i. other y (inl refl) h.0 i || none_same x ys h.1 (λ z m. other z (inr m)) i)

  pub once_rising : (xs : List X) → AreRising before xs → ((x y : X) → IsIn x xs → IsIn y xs → before x y ≡ true → same x y ≡ false) → no_two same xs ≡ true
  once_rising [] h other = refl
  once_rising (x ∷ xs) h other = (λ i. not (none_same x xs h.0 (λ y m. other x y (inl refl) (inr m)) i) && once_rising xs h.1 (λ y z m n. other y z (inr m) (inr n)) i)

module _ (first : ℤ) (acts : List Act) (history : IsHistory first acts) (last : Option Placed) where
  named_as : (p : Placed) → IsIn p (page (open_orders first acts last)) → order_named acts p.order ≡ Some p
  named_as p h =
      let a = of_filter (λ (p : Placed). is_open first acts p.order && is_behind is_served_before last p) p (orders_served acts) (of_taken PAGE_MAX p (open_orders first acts last) h) in
      member_found same_order (orders acts) (orders acts) (orders_found first acts history) p (of_served acts p a.0)

  apart : (p q : Placed) → order_named acts p.order ≡ Some p → order_named acts q.order ≡ Some q → is_served_before p q ≡ true → same_text p.order q.order ≡ false
  apart p q e f h =
      elim (same_text p.order q.order) as (λ b. same_text p.order q.order ≡ b → b ≡ false) [
        | true ↦ λ t.
            let one : Some p ≡ Some q = sym e ∙ ap (order_named acts) (same_text_is p.order q.order t) ∙ f in
            let same : p ≡ q = cc in
            let no : is_served_before p p ≡ true = ap (is_served_before p) same ∙ h in
            let strict : is_served_before p p ≡ false = ahead_strict p.urgent p.act in
            let none : true ≡ false = sym no ∙ strict in
            cc
        | false ↦ λ t. refl
      ] refl

  pub page_once : no_two same_order (page (open_orders first acts last)) ≡ true
  page_once =
      once_rising is_served_before same_order (page (open_orders first acts last))
      (rising_taken is_served_before same_order PAGE_MAX (open_orders first acts last)
      (rising_kept is_served_before (λ (p : Placed). is_open first acts p.order && is_behind is_served_before last p) (orders_served acts) (served_rises acts)))
      (λ p q m n h. apart p q (named_as p m) (named_as q n) h)
